use Rattle.std.proofs.Common.{◌∙◌, Ok, ap}
use Rattle.std.proofs.lemmas.Result.{err_from_is_err_and}
use Rattle.live_feed.proofs.ServingLaws.{Laws, starts}
use Rattle.live_feed.proofs.TogetherLaws.{not_read, not_served, read_all, reads_on, served_on, told_not}
use Rattle.live_feed.proofs.serving.Feed.serve.Goals as goal

pub loop-init : goal.loop-init
loop-init g c = starts _ _ _ _ _ _ _ _ c.requires

pub loop-preserved : goal.loop-preserved
loop-preserved g c =
    let on = served_on _ _ _ _ _ _ _ _ _ _ _ _ _ _ _ _ _ _ _ c.gather-read.new.lines.items c.gather-read.result c.serve_lines-served.result c.loop.invariant c.gather-read.ensures (rw c.as_slice.ensures.value at c.serve_lines-served.ensures.served) c.serve_lines-served.ensures.told in
    reads_on _ _ _ _ _ on.0 _ _ _ _ _ _ _ _ _ _ _ _ _ c.serve_lines-served.result c.gather-read.result c.tell.ensures.same.0 c.tell.ensures.same.1 on.2 c.in_ok-served.was on.1 (c.in_ok-read.was ∙ ap Ok c.if-not-branch.false) (rw c.in_ok-tell.was at c.tell.ensures.told)

pub returns-in_err-tell : goal.returns-in_err-tell
returns-in_err-tell g c =
    let laws : Laws g.S.LineServer.serves = record { only = g.S.LineServer.only_kept; skipped = g.S.LineServer.skipped; whole = g.S.LineServer.whole } in
    let on = served_on _ _ _ _ _ _ _ _ _ _ _ _ _ _ _ _ _ _ _ c.gather-read.new.lines.items c.gather-read.result c.serve_lines-served.result c.loop.invariant c.gather-read.ensures (rw c.as_slice.ensures.value at c.serve_lines-served.ensures.served) c.serve_lines-served.ensures.told in
    let out = err_from_is_err_and c.from_residual.result c.from_residual.ensures.1 in
    rw (out.1, out.2) (told_not _ _ laws _ _ _ on.0 (g.R.Read.remaining c.gather-read.new.input) _ _ _ _ _ _ _ _ _ _ _ c.serve_lines-served.result _ on.2 (rw c.in_err-tell.was at c.tell.ensures.told))

pub returns-in_err-served : goal.returns-in_err-served
returns-in_err-served g c =
    let laws : Laws g.S.LineServer.serves = record { only = g.S.LineServer.only_kept; skipped = g.S.LineServer.skipped; whole = g.S.LineServer.whole } in
    let on = served_on _ _ _ _ _ _ _ _ _ _ _ _ _ _ _ _ _ _ _ c.gather-read.new.lines.items c.gather-read.result c.serve_lines-served.result c.loop.invariant c.gather-read.ensures (rw c.as_slice.ensures.value at c.serve_lines-served.ensures.served) c.serve_lines-served.ensures.told in
    let out = err_from_is_err_and c.from_residual-in_err-served.result c.from_residual-in_err-served.ensures.1 in
    rw (out.1, out.2) (not_served _ _ laws _ _ _ on.0 (g.R.Read.remaining c.gather-read.new.input) _ _ _ _ _ _ _ _ _ _ _ c.serve_lines-served.result _ c.tell.ensures.same.0 on.2 c.in_err-served.was (rw c.in_ok-tell.was at c.tell.ensures.told))

pub returns-in_err-read : goal.returns-in_err-read
returns-in_err-read g c =
    let laws : Laws g.S.LineServer.serves = record { only = g.S.LineServer.only_kept; skipped = g.S.LineServer.skipped; whole = g.S.LineServer.whole } in
    let on = served_on _ _ _ _ _ _ _ _ _ _ _ _ _ _ _ _ _ _ _ c.gather-read.new.lines.items c.gather-read.result c.serve_lines-served.result c.loop.invariant c.gather-read.ensures (rw c.as_slice.ensures.value at c.serve_lines-served.ensures.served) c.serve_lines-served.ensures.told in
    let out = err_from_is_err_and c.from_residual-in_err-read.result c.from_residual-in_err-read.ensures.1 in
    rw (out.1, out.2) (not_read _ _ laws _ _ _ on.0 (g.R.Read.remaining c.gather-read.new.input) _ _ _ _ _ _ _ _ _ _ _ c.serve_lines-served.result c.gather-read.result _ c.tell.ensures.same.0 on.2 c.in_ok-served.was on.1 c.in_err-read.was (rw c.in_ok-tell.was at c.tell.ensures.told))

pub returns-then-not-branch : goal.returns-then-not-branch
returns-then-not-branch g c =
    let laws : Laws g.S.LineServer.serves = record { only = g.S.LineServer.only_kept; skipped = g.S.LineServer.skipped; whole = g.S.LineServer.whole } in
    let on = served_on _ _ _ _ _ _ _ _ _ _ _ _ _ _ _ _ _ _ _ c.gather-read.new.lines.items c.gather-read.result c.serve_lines-served.result c.loop.invariant c.gather-read.ensures (rw c.as_slice.ensures.value at c.serve_lines-served.ensures.served) c.serve_lines-served.ensures.told in
    read_all _ _ laws _ _ _ on.0 (g.R.Read.remaining c.gather-read.new.input) _ _ _ _ _ _ _ _ _ _ _ c.serve_lines-served.result c.gather-read.result c.tell.ensures.same.0 on.2 c.in_ok-served.was on.1 (c.in_ok-read.was ∙ ap Ok c.if-not-branch.true) (rw c.in_ok-tell.was at c.tell.ensures.told)
