use Rattle.std.proofs.Common.{rules, ◌≡◌, ◌⊎◌, inl, inr, ◌<◌, ◌≤◌, ◌∙◌, Ok, false, length, refl, ap}
use Rattle.std.proofs.lemmas.Result.{err_from_is_err_and}
use Rattle.live_feed.specs.Reading.{whole_of}
use Rattle.live_feed.proofs.ReplayLaws.{begins, ends_again, lines_replayed, reads_again}
use Rattle.live_feed.proofs.replaying.replay.Goals as goal
use Rattle.live_feed.proofs.replaying.replay.Goals.{then-whole-len-via-then-whole-len, then-whole-len-via-else-whole-len+in_ok-read+then-not-branch}

pub loop-init : goal.loop-init
loop-init g c = begins _ _ _ _ _ _ _ refl refl

pub loop-preserved : goal.loop-preserved
loop-preserved g c =
    let served = rw c.as_slice.ensures.value at (rw c.whole_lines-whole.ensures at c.replay_lines.ensures) in
    let gathered = c.gather-read.ensures in
    let going = rw c.in_ok-end.was at (lines_replayed _ _ _ _ _ _ gathered.0 _ _ _ _ _ _ c.gather-read.new.lines.items c.replay_lines.result c.loop.invariant gathered.1 served) in
    let all : length c.gather-read.new.lines.items ≤ length (whole_of c.gather-read.new.lines.items) = search rules in
    reads_again _ _ _ _ _ going.0 _ _ _ _ _ _ _ c.gather-read.result going.1 going.2 all gathered.2 (c.in_ok-read.was ∙ ap Ok c.if-not-branch.false)

pub returns-then-whole-len : goal.returns-then-whole-len
returns-then-whole-len g c =
    let served = rw c.as_slice.ensures.value at (rw c.whole_lines-whole.ensures at c.replay_lines.ensures) in
    let gathered = c.gather-read.ensures in
    let going = rw c.in_ok-end.was at (lines_replayed _ _ _ _ _ _ gathered.0 _ _ _ _ _ _ c.gather-read.new.lines.items c.replay_lines.result c.loop.invariant gathered.1 served) in
    let why : (length (whole_of c.gather-read.new.lines.items) < length c.gather-read.new.lines.items) ⊎ (c.gather-read.result ≡ Ok false) =
    elim c.then-whole-len.branch [ then-whole-len-via-then-whole-len w ↦ inl (search rules) | then-whole-len-via-else-whole-len+in_ok-read+then-not-branch w ↦ inr (w.in_ok-read.was ∙ ap Ok w.if-not-branch.true) ] in
    ends_again _ _ _ _ _ going.0 _ _ _ _ _ _ _ c.gather-read.result going.1 going.2 gathered.2 why

pub returns-in_err-end : goal.returns-in_err-end
returns-in_err-end g c =
    let served = rw c.as_slice.ensures.value at (rw c.whole_lines-whole.ensures at c.replay_lines.ensures) in
    let gathered = c.gather-read.ensures in
    let stops = rw c.in_err-end.was at (lines_replayed _ _ _ _ _ _ gathered.0 _ _ _ _ _ _ c.gather-read.new.lines.items c.replay_lines.result c.loop.invariant gathered.1 served) in
    let out = err_from_is_err_and c.from_residual.result c.from_residual.ensures.1 in
    rw (out.1, out.2) (stops (g.W.Write.contents c.replay_lines.new.out) c.replay_lines.new.server)
