use Rattle.std.proofs.Common.{ℕ, length, rules, arith}
use Rattle.std.proofs.lemmas.Iterator.{YieldsList-from_range}
use Rattle.std.proofs.lemmas.Iterator.Consumers.{YieldsList-from_filter, nth_from_yields_List}
use Rattle.scp_spec.specs.Sets.{among}
use Rattle.host_closure.specs.Announcing.{member_names}
use Rattle.host_compare.specs.Steps.{event_at, is_kept_in}
use Rattle.host_compare.proofs.KeptSteps.{entry_is}
use Rattle.host_compare.proofs.inputs.kept_entry.Goals as goal

pub returns : goal.returns
returns g c =
    let R = among (member_names c.args.members.now) in
    let run = c.args.journal.now.entries in
    entry_is R c.args.slot run c.args.place c.nth.result
    (nth_from_yields_List c.nth.result c.nth.new.self c.args.place c.nth.ensures.ran
    (YieldsList-from_filter _ (λ (k : ℕ). is_kept_in R c.args.slot (event_at run k)) (YieldsList-from_range 0 c.len.result (length run) c.filter-kept.ensures.source (omega (arith, c.len.ensures))) c.filter-kept.ensures.closure (λ x b q k. search rules)))
