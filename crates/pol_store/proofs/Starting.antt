-- A new store stands for the first state.
use Rattle.std.proofs.Common.{◌≡◌, ◌≤◌, [], refl, sym, ap, subst, ◌∙◌, arith}
use Rattle.pol_model.specs.declared.options.Options.{Options}
use Rattle.pol_model.specs.After.{start}
use Rattle.pol_set_changes.specs.Log.{newest}
use Rattle.pol_selcache.specs.Cache.{Cache}
use Rattle.pol_selcache.specs.Live.{AreExact}
use Rattle.pol_tables.specs.Tables.{number_named}
use Rattle.pol_allocator.specs.Held.{Held, nothing_held}
use Rattle.pol_peers.specs.References.{RefsOf}
use Rattle.pol_store.specs.Store.{StandsFor, Stored}

pub starts : (options : Options) (stored : Stored) (numbers : Held) → numbers ≡ nothing_held → stored.state.revision ≡ 0 → stored.state.mode ≡ options.mode → stored.state.identities ≡ numbers.rows
    → stored.state.named ≡ [] → stored.state.policies ≡ [] → stored.state.endpoints ≡ [] → stored.cache ≡ numbers.cache → StandsFor (start options) stored
starts options stored numbers nothing revision mode identities named policies endpoints cache =
    let empty : stored.cache ≡ nothing_held.cache = cache ∙ ap (λ (held : Held). held.cache) nothing in
    record {
      like = record {
        revision = revision;
        mode = mode;
        identities = identities ∙ ap (λ (held : Held). held.rows) nothing;
        named = λ name. ap (number_named name) named;
        policies = policies;
        endpoints = endpoints;
      };
      refs = subst (λ (c : Cache). RefsOf [] c.live) (sym empty) (λ p. refl);
      exact = subst (λ (c : Cache). AreExact nothing_held.rows c.live) (sym empty) tt;
      newest = subst (λ (c : Cache). newest c.log ≤ 0) (sym empty) (omega arith);
    }
