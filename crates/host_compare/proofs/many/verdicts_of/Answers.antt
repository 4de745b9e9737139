use denote.Param.{param}
use denote.Param.Send.{IsSync, sendable}
use Rattle.host_journal.specs.contracts.kept_entries.Kept as Kept
use Rattle.host_journal.specs.contracts.kept_entries.KeptKeeping.TheImpl.{ghosts}
use Rattle.host_world.specs.contracts.world.World as World
use Rattle.std.proofs.Crossing.{crosses}
use Rattle.std.proofs.Common.{◌∙◌, ap, subst, List, IfOk}
use Rattle.rayon.proofs.ToStd.{slice-AllZip}
use Rattle.host_journal.specs.Logs.{Log}
use Rattle.host_world.specs.Worlds.{log_at}
use Rattle.host_compare.specs.Meanings.{IsVerdictOn}
use Rattle.host_compare.specs.Questions.{AreVerdictsOn}
use Rattle.host_compare.specs.declared.verdict.Verdict.{Verdict}
use Rattle.scp_types.proofs.subject.Subject.TheSendSync as subject
use Rattle.scp_types.specs.declared.subject.Subject.{Subject}
use Rattle.host_world.proofs.Crossing.{kept_world_sync}
use Rattle.host_compare.proofs.Crossing.{global_sync, verdict_send}
use Rattle.host_compare.proofs.ManyLaws.{all_ok}
use Rattle.host_compare.proofs.many.verdicts_of.Goals as goal

pub returns : goal.returns
returns g c =
    let slice = ap (λ it. it.base.slice.now) c.map.ensures.base ∙ (ap (λ it. it.slice.now) c.with_min_len.ensures.base ∙ c.par_iter.ensures) in
    let h = c.in_ok-collect.ensures in
    let chain = h.1 in
    let one : List Log = c.map.result.f.1.now in
    let other : List Log = c.map.result.f.2.now in
    let all = all_ok _ (λ (s : Subject) (r : Verdict). IsVerdictOn (log_at one s.net) (log_at other s.net) s.slot s.node r) c.args.subjects.now h.0 c.in_ok-collect.field-0 h.2
    (slice-AllZip chain.0 c.args.subjects.now (chain.1 ∙ slice) (λ s r. IfOk r (λ (v : Verdict). IsVerdictOn (log_at one s.net) (log_at other s.net) s.slot s.node v)) h.0 chain.2) in
    subst (λ f. IfOk c.in_ok-collect.field-0 (λ rs. AreVerdictsOn f.1.now f.2.now c.args.subjects.now rs.items)) c.map.ensures.f all

pub map-requires-send-U : goal.map-requires-send-U
map-requires-send-U g c κs within = search (sendable, crosses, verdict_send) depth 40

pub map-requires-send-F : goal.map-requires-send-F
map-requires-send-F g c κs within =
    let one : IsSync (World.the_row (param 0 g.row.S) Kept.the_row (param 3 g.row.S-Place) g.S.Places ghosts) = kept_world_sync (param 0 g.row.S) (param 3 g.row.S-Place) g.S.Places c.type_bounds.sync-S c.type_bounds.sync-S-Place in
    let other : IsSync (World.the_row (param 1 g.row.T) Kept.the_row (param 4 g.row.T-Place) g.T.Places ghosts) = kept_world_sync (param 1 g.row.T) (param 4 g.row.T-Place) g.T.Places c.type_bounds.sync-T c.type_bounds.sync-T-Place in
    search (sendable, crosses, global_sync) depth 40

pub map-requires-sync-F : goal.map-requires-sync-F
map-requires-sync-F g c κs within =
    let one : IsSync (World.the_row (param 0 g.row.S) Kept.the_row (param 3 g.row.S-Place) g.S.Places ghosts) = kept_world_sync (param 0 g.row.S) (param 3 g.row.S-Place) g.S.Places c.type_bounds.sync-S c.type_bounds.sync-S-Place in
    let other : IsSync (World.the_row (param 1 g.row.T) Kept.the_row (param 4 g.row.T-Place) g.T.Places ghosts) = kept_world_sync (param 1 g.row.T) (param 4 g.row.T-Place) g.T.Places c.type_bounds.sync-T c.type_bounds.sync-T-Place in
    search (sendable, crosses, global_sync) depth 40

pub collect-requires-send-Self : goal.collect-requires-send-Self
collect-requires-send-Self g c κs within =
    let one : IsSync (World.the_row (param 0 g.row.S) Kept.the_row (param 3 g.row.S-Place) g.S.Places ghosts) = kept_world_sync (param 0 g.row.S) (param 3 g.row.S-Place) g.S.Places c.type_bounds.sync-S c.type_bounds.sync-S-Place in
    let other : IsSync (World.the_row (param 1 g.row.T) Kept.the_row (param 4 g.row.T-Place) g.T.Places ghosts) = kept_world_sync (param 1 g.row.T) (param 4 g.row.T-Place) g.T.Places c.type_bounds.sync-T c.type_bounds.sync-T-Place in
    search (sendable, crosses, global_sync, subject.the_field_sync) depth 60

pub collect-requires-send-Self-Item : goal.collect-requires-send-Self-Item
collect-requires-send-Self-Item g c κs within = search (sendable, crosses, verdict_send) depth 40

pub collect-requires-send-C : goal.collect-requires-send-C
collect-requires-send-C g c κs within = search (sendable, crosses, verdict_send) depth 40
