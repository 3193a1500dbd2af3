use Rattle.std.proofs.Common.{◌≡◌, ◌||◌, ◌*◌, ◌≤◌, sym, ap, ◌∙◌, arith}
use Rattle.pol_addr.specs.Prefix.{network_of, prefix_of}
use Rattle.pol_headings.specs.Heading.{same_heading}
use Rattle.pol_headings.specs.Inside.{is_octets}
use Rattle.pol_headings.specs.Tried.{is_among}
use Rattle.pol_headings.specs.declared.heading.Heading.TheVariants as is
use Rattle.pol_headings.proofs.Added.{added_octets, octets-next}
use Rattle.pol_headings.proofs.headings.Headings.add_octets.Goals as goal

pub loop-octets-preserved : goal.loop-octets-preserved
loop-octets-preserved c other =
    let prefix = c.args.prefix.now in
    let k = c.loop-octets.octets in
    let around : prefix_of (network_of prefix) (k * 8) ≡ c.new-octets.result = sym (c.new-octets.ensures.value ∙ ap (λ a. prefix_of a (k * 8)) c.network.ensures.value) in
    let short : k * 8 ≤ prefix.len = omega (arith, c.loop-octets-test.true, c.len.ensures.value) in
    added_octets _ _ (is_among c.args.self.now other) (is_octets prefix k other) _ _
    (c.in_ok-add.ensures other) (c.loop-octets.invariant other)
    (octets-next prefix k other short ∙ ap (λ p. is_octets prefix k other || same_heading (is.Prefix p) other) around)
