use Rattle.std.proofs.Common.{codes, option_map, refl}
use Rattle.std.proofs.lemmas.Result.{err_from_is_err_and}
use Rattle.serde_json.specs.View.{view}
use Rattle.pol_script.specs.Commands.{make_query, remote_of}
use Rattle.pol_script.specs.Forms.{a_protocol, whole}
use Rattle.pol_script.specs.Members.{value_of}
use Rattle.pol_script.specs.Reading.{read_rows}
use Rattle.pol_script.specs.Table.{needed, query_rows}
use Rattle.pol_script.proofs.Turns.{refused}
use Rattle.pol_script.proofs.query.read_query.Goals as goal

pub returns-in_err-proto : goal.returns-in_err-proto
returns-in_err-proto c =
    let back = c.from_residual-in_err-proto in
    let p = err_from_is_err_and back.result back.ensures.1 in
    let d = view c.args.value.now in
    refused (λ x. x) (λ command. command) (value_of needed a_protocol (codes "protocol") d) (read_rows query_rows (make_query c.args.is_trace) d) c.in_err-proto.field-0.0 back.result
    c.in_err-proto.ensures (cc (p.1, p.2))
    (λ fault is. rw (c.in_ok-endpoint.ensures, c.in_ok-dir.ensures, c.in_ok-identity.ensures, c.in_ok-address.ensures, is) refl)

pub returns-in_err-port : goal.returns-in_err-port
returns-in_err-port c =
    let back = c.from_residual-in_err-port in
    let p = err_from_is_err_and back.result back.ensures.1 in
    let d = view c.args.value.now in
    refused (λ x. x) (λ command. command) (value_of needed (whole 0 65535) (codes "port") d) (read_rows query_rows (make_query c.args.is_trace) d) c.in_err-port.field-0.0 back.result
    c.in_err-port.ensures (cc (p.1, p.2))
    (λ fault is. rw (c.in_ok-endpoint.ensures, c.in_ok-dir.ensures, c.in_ok-identity.ensures, c.in_ok-address.ensures, c.in_ok-proto.ensures, is) refl)

pub returns-in_err-remote : goal.returns-in_err-remote
returns-in_err-remote c =
    let back = c.from_residual-in_err-remote in
    let p = err_from_is_err_and back.result back.ensures.1 in
    let d = view c.args.value.now in
    refused (λ x. x) (λ command. command) (remote_of c.in_ok-identity.identity (option_map (λ text. text.now) c.in_ok-address.address)) (read_rows query_rows (make_query c.args.is_trace) d) c.in_err-remote.field-0.0 back.result
    c.in_err-remote.ensures (cc (p.1, p.2))
    (λ fault is.
    rw (c.in_ok-endpoint.ensures, c.in_ok-dir.ensures, c.in_ok-identity.ensures, c.in_ok-address.ensures, c.in_ok-proto.ensures, c.in_ok-port.ensures, c.in_ok-session.ensures, c.in_ok-check_known.ensures, is)
    refl)
