use Rattle.std.proofs.Common.{◌≡◌, ◌≤◌, subst, sym, ap, ◌∙◌, ◌++◌, ◌+◌, length, take, append-nil, arith}
use Rattle.std.specs.Option.{option_to_list}
use Rattle.scp_spec.specs.Hosts.{Config}
use Rattle.pool_cell.specs.Sights.{CellSight}
use Rattle.pool_workers.specs.Sums.{IsBusy, KeepsSums, hears_of}
use Rattle.pool_workers.proofs.Sums.{hears_more, kept_none, kept_both}
use Rattle.std.proofs.lemmas.List.{get_or_default, take_all}
use Rattle.pool_workers.proofs.worker.Worker.let_others_hear.Goals as goal
use Rattle.pool_workers.proofs.worker.Worker.let_others_hear.Goals.{in-Some, in-None}

pub loop-hosted-init : goal.loop-hosted-init
loop-hosted-init g c = (c.requires.busy, kept_none _ _)

pub apply_at-requires-clause-job : goal.apply_at-requires-clause-job
apply_at-requires-clause-job g c = λ d. c.requires.network d ∙ sym c.in-Some.ensures.network

pub loop-hosted-preserved : goal.loop-hosted-preserved
loop-hosted-preserved g c =
    let i = c.loop-hosted.invariant in
    let e = c.args.emission in
    let hs = c.nodes-nodes.result.now in
    let n = c.loop-hosted.hosted-index in
    let h = c.hosted-item.result in
    let was = c.loop-hosted.self in
    let a = c.args.self.now in
    let cs = c.args.workplace.now.shared.now.cells.items in
    let more = hears_more e hs n h c.loop-hosted-test.true c.hosted-item.is in
    elim c.match-hearing.branch [
      | in-Some w ↦
          let s = w.apply_at.ensures in
          let now = w.apply_at.new.self in
          let what = sym (ap option_to_list w.in-Some.is) ∙ c.hearing.ensures.jobs in
          subst (λ y. IsBusy cs c.args.workplace.now.shared.now.queue c.args.k y × KeepsSums cs (hears_of e (take (n + 1) hs)) a y) (sym w.self-is) (
            s.busy,
            subst (λ l. KeepsSums cs l a now) (ap (λ l. hears_of e (take n hs) ++ l) what ∙ more) (kept_both cs _ _ a was now i.1 s.kept),
          )
      | in-None w ↦
          let what = sym (ap option_to_list w.in-None.is) ∙ c.hearing.ensures.jobs in
          subst (λ y. IsBusy cs c.args.workplace.now.shared.now.queue c.args.k y × KeepsSums cs (hears_of e (take (n + 1) hs)) a y) (sym w.self-is)
          (i.0, subst (λ l. KeepsSums cs l a was) (sym (append-nil _) ∙ ap (λ l. hears_of e (take n hs) ++ l) what ∙ more) i.1)
    ]

pub returns-clause-kept : goal.returns-clause-kept
returns-clause-kept g c = λ d at.
    (let i = c.loop-hosted.invariant in
    let cs = c.args.workplace.now.shared.now.cells.items in
    let le : length c.nodes-nodes.result.now ≤ c.loop-hosted.hosted-index = let t = c.loop-hosted-test.false in omega arith in
    let cell : c.index.result.now ≡ d = c.index.ensures ∙ get_or_default cs c.args.k c.index.result.now d c.requires.busy.there ∙ sym at in
    let nodes = take_all c.loop-hosted.hosted-index c.nodes-nodes.result.now le ∙ c.nodes-nodes.ensures.value ∙ ap (λ (k : Config). k.nodes) c.config.ensures ∙ ap (λ (x : CellSight). x.config.nodes) cell in
    subst (λ l. KeepsSums cs (hears_of c.args.emission l) c.args.self.now c.loop-hosted.self) nodes i.1)
