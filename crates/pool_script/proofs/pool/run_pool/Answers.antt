use denote.Param.Send.{sendable}
use Rattle.std.proofs.Common.{rules, List, ℕ, subst}
use Rattle.std.proofs.Crossing.{crosses}
use Rattle.std.specs.Prelude.{string_bytes}
use Rattle.scp_types.specs.declared.event.Event.{Event}
use Rattle.scp_spec.specs.Hosts.{Config}
use Rattle.pool_script.specs.Pooling.{IsPoolText}
use Rattle.pool_script.proofs.Crossing.{errand_send, errand_sync}
use Rattle.pool_script.proofs.ErrandLaws.{pool_text}
use Rattle.pool_script.proofs.pool.run_pool.Goals as goal

pub do_all-requires-send-T : goal.do_all-requires-send-T
do_all-requires-send-T g c κs within = let e = errand_send _ c.type_bounds.send-R in search (sendable, crosses) depth 10

pub do_all-requires-sync-T : goal.do_all-requires-sync-T
do_all-requires-sync-T g c κs within = let e = errand_sync _ c.type_bounds.sync-R in search (sendable, crosses) depth 10

pub returns : goal.returns
returns g c =
    let parts = c.into_parts-configs.ensures in
    subst (λ (z : List Config × List (ℕ × Event)). IsPoolText z.0 z.1 (string_bytes c.in_ok-text.text)) (λ i. (parts.configs i, parts.calls i))
    (pool_text _ _ c.in_ok-shares.elsewhere.items c.in_ok-shares.shares.items c.in_ok-errands.errands.items c.in-Some.done.items c.len.result (string_bytes c.in_ok-text.text)
    c.in_ok-shares.ensures.shares c.in_ok-shares.ensures.elsewhere (search rules) c.in_ok-errands.ensures c.in-Some.ensures c.in_ok-text.ensures)
