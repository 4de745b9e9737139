use Rattle.std.proofs.Common.{◌≡◌, ◌++◌, List, Some, None, OnOk, sym, ap, subst, ◌∙◌}
use Rattle.std.proofs.lemmas.List.{append-nil}
use Rattle.scp_types.specs.declared.event.Out.{Out}
use Rattle.host_journal.specs.Lending.{outs_in}
use Rattle.host_journal.specs.Logs.{Log}
use Rattle.host_journal.proofs.OutsAt.{looked-up}
use Rattle.host_journal.proofs.journal.Journal+S.push_outs.Goals as goal

pub returns-in-None-clause-ok : goal.returns-in-None-clause-ok
returns-in-None-clause-ok g c =
    let none = looked-up c.self.inside.kept.entries.items c.args.self.now.entries c.args.number None (ap (λ (l : Log). l.entries) c.self.view_is) c.in-None.ensures.at in
    sym (append-nil c.args.outs.now.items) ∙ ap (λ o. c.args.outs.now.items ++ outs_in o) (sym none)

pub returns-in-Some-clause-ok : goal.returns-in-Some-clause-ok
returns-in-Some-clause-ok g c =
    let there = looked-up c.self.inside.kept.entries.items c.args.self.now.entries c.args.number (Some c.in-Some.kept) (ap (λ (l : Log). l.entries) c.self.view_is) c.in-Some.ensures.at in
    subst (λ (os : List Out). OnOk c.push_whole_outs.result (c.push_whole_outs.new.whole.items ≡ c.args.outs.now.items ++ os)) (ap outs_in (sym there)) c.push_whole_outs.ensures.ok
