use Rattle.std.proofs.Common.{Option, Some, option_map, sym, ap, subst}
use Rattle.host_journal.specs.Logs.{Log}
use Rattle.host_compare.specs.Meanings.{AreIsolated}
use Rattle.host_compare.proofs.Judging.{isolated_both, isolated_alone}
use Rattle.host_compare.proofs.comparing.are_isolated.Goals as goal

pub returns-in-Some : goal.returns-in-Some
returns-in-Some g c =
    subst (λ (o : Option Log). AreIsolated (Some c.args.one.now) o c.args.slot c.args.node.now) (sym (ap (λ o. option_map (λ j. j.now) o) c.in-Some.is))
    (isolated_both c.args.one.now c.in-Some.journal.now c.args.slot c.args.node.now c.replays.ensures c.replays-in-Some.ensures)

pub returns-in_default : goal.returns-in_default
returns-in_default g c =
    subst (λ (o : Option Log). AreIsolated (Some c.args.one.now) o c.args.slot c.args.node.now) (sym (ap (λ o. option_map (λ j. j.now) o) c.in_default.is))
    (isolated_alone c.args.one.now c.args.slot c.args.node.now)
