use Rattle.std.proofs.Common.{append_assoc, ◌≡◌, ◌<◌, ◌≤◌, ◌+◌, ◌++◌, subst, sym, ap, ◌∙◌, [], ℕ, List, drop, length, arith, refl, slice_get, get_or}
use Rattle.pool_queue.specs.declared.rule.Job.{Job}
use Rattle.scp_types.specs.declared.event.Out.{Out}
use Rattle.scp_types.specs.declared.event.Out.TheVariants.{ArmBallot}
use Rattle.scp_spec.specs.Hosts.{Config}
use Rattle.std.proofs.lemmas.List.{get_or_default}
use Rattle.pool_cell.specs.Sights.{CellSight}
use Rattle.pool_workers.specs.Sums.{IsBusy, KeepsSums, emission_at_mark, hears, hears_of_outs, hears_of}
use Rattle.pool_workers.proofs.Sums.{found_network, found_none, found_some, hears_whole, kept_both, kept_none, number_at}
use Rattle.pool_workers.proofs.worker.Worker.follow_receipt.Goals as goal
use Rattle.pool_workers.proofs.worker.Worker.follow_receipt.Goals.{in-Some, in-None}

pub loop-index-init : goal.loop-index-init
loop-index-init g c = (c.requires, omega arith, ([], refl, kept_none _ _))

pub let_others_hear-requires-clause-network : goal.let_others_hear-requires-clause-network
let_others_hear-requires-clause-network g c =
    let found = c.emission_of.ensures (ArmBallot 0) in
    let n = c.number.ensures ∙ ap (λ (k : Config). k.number) c.config-config.ensures in
    number_at c.args.workplace.now.shared.now.cells.items c.args.k c.index.result.now c.number.result c.in-Some.emission.network c.requires.there c.index.ensures n (found_network _ _ _ c.in-Some.emission (sym found ∙ c.in-Some.is))

pub loop-index-preserved : goal.loop-index-preserved
loop-index-preserved g c =
    let i = c.loop-index.invariant in
    let r = c.args.receipt.now in
    let config = c.config-config.result.now in
    let was = c.loop-index.self in
    let a = c.args.self.now in
    let cs = c.args.workplace.now.shared.now.cells.items in
    let index = c.loop-index.index in
    let mark = c.loop-index.mark in
    let o : Out = ArmBallot 0 in
    let many = ap (λ (l : List Out). length l) c.outs-many.ensures in
    let lt : index < length r.outs = let t = c.loop-index-test.true in omega arith in
    let handed : List Job = i.2.0 in
    let found : c.emission_of.result ≡ emission_at_mark config.number (get_or r.outs index o) (slice_get r.marks mark) = c.emission_of.ensures o ∙ ap (λ (n : ℕ). emission_at_mark n (get_or r.outs index o) (slice_get r.marks mark)) c.number.ensures in
    elim c.match-emission_of.branch [
      | in-Some w ↦
          let e = w.in-Some.emission in
          let s = w.let_others_hear.ensures in
          let now = w.let_others_hear.new.self in
          let more = found_some config r.outs r.marks index mark o e lt (sym found ∙ w.in-Some.is) in
          let kept = subst (λ (k : Config). KeepsSums cs (hears_of e k.nodes) was now) (sym c.config-config.ensures) (s.kept c.index.result.now c.index.ensures) in
          subst (λ y. IsBusy cs c.args.workplace.now.shared.now.queue c.args.k y × (c.match-emission_of.mark ≤ index + 1)
          × ((handed : List Job) × (handed ++ hears_of_outs config (drop (index + 1) r.outs) (drop c.match-emission_of.mark r.marks) ≡ hears config r) × KeepsSums cs handed a y)) (sym w.self-is) (
            s.busy,
            (let m = i.1 in let k : c.match-emission_of.mark ≡ mark + 1 = w.mark-is in omega arith),
            (
              handed ++ hears_of e config.nodes,
              subst (λ m. (handed ++ hears_of e config.nodes) ++ hears_of_outs config (drop (index + 1) r.outs) (drop m r.marks) ≡ hears config r) (sym w.mark-is)
                  (append_assoc handed (hears_of e config.nodes) _ ∙ ap (λ l. handed ++ l) (sym more) ∙ i.2.1),
              kept_both cs handed _ a was now i.2.2 kept,
            ),
          )
      | in-None w ↦
          let more = found_none config r.outs r.marks index mark o lt (sym found ∙ w.in-None.is) in
          subst (λ y. IsBusy cs c.args.workplace.now.shared.now.queue c.args.k y × (c.match-emission_of.mark ≤ index + 1)
          × ((handed : List Job) × (handed ++ hears_of_outs config (drop (index + 1) r.outs) (drop c.match-emission_of.mark r.marks) ≡ hears config r) × KeepsSums cs handed a y)) (sym w.self-is) (
            i.0,
            (let m = i.1 in let k : c.match-emission_of.mark ≡ mark = w.mark-is in omega arith),
            (
              handed,
              subst (λ m. handed ++ hears_of_outs config (drop (index + 1) r.outs) (drop m r.marks) ≡ hears config r) (sym w.mark-is) (ap (λ l. handed ++ l) (sym more) ∙ i.2.1),
              i.2.2,
            ),
          )
    ]

pub returns-clause-kept : goal.returns-clause-kept
returns-clause-kept g c = λ d at.
    (let i = c.loop-index.invariant in
    let cs = c.args.workplace.now.shared.now.cells.items in
    let many = ap (λ (l : List Out). length l) c.outs-many.ensures in
    let le : length c.args.receipt.now.outs ≤ c.loop-index.index = let t = c.loop-index-test.false in omega arith in
    let cell : c.index.result.now ≡ d = c.index.ensures ∙ get_or_default cs c.args.k c.index.result.now d c.requires.there ∙ sym at in
    let whole = hears_whole c.config-config.result.now c.args.receipt.now c.loop-index.index c.loop-index.mark i.2.0 le i.2.1 in
    subst (λ l. KeepsSums cs l c.args.self.now c.loop-index.self) (whole ∙ ap (λ (k : Config). hears k c.args.receipt.now) (c.config-config.ensures ∙ ap (λ (x : CellSight). x.config) cell)) i.2.2)
