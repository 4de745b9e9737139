use Rattle.std.proofs.Common.{ℕ, List, Option, Some, length, set, ◌∙◌, ap, arith}
use Rattle.std.specs.Vec.{with_items}
use Rattle.std.proofs.lemmas.List.{with_items_is}
use Rattle.scp_bits.specs.Places.{Numbered}
use Rattle.node_view.proofs.EntryLaws.{ballot_set, nomination_set}
use Rattle.node_view.proofs.region.Region.set_entry.Goals as goal

pub returns-in-Ballot-clause-region : goal.returns-in-Ballot-clause-region
returns-in-Ballot-clause-region c = λ own configured table e entry is.
    let v = c.args.self.now.ballots in
    let x = c.args.entry in
    let now = c.set_at.new.entries in
    let w = c.args.self.now.ballot_rows in
    let rows = c.set_row.new.rows in
    let few = ap (λ (os : List (Option ℕ)). length os) c.deref_mut-in-Ballot.ensures.value in
    let many = ap (λ (cs : List (Option Numbered)). length cs) c.deref_mut.ensures.value in
    ballot_set table e c.args.self.now own configured is x entry c.in-Ballot.is c.with_place-self.result (with_items v now) (λ within.
    with_items_is v now (omega (arith, c.set_at.auto.entries, c.deref_mut.ensures.len, many))
    ∙ (c.set_at.ensures (omega (arith, within, many)) ∙ ap (λ (cs : List (Option Numbered)). set cs x.place (Some x.slices)) c.deref_mut.ensures.value))
    (with_items w rows) (λ within.
    with_items_is w rows (omega (arith, c.set_row.auto.rows, c.deref_mut-in-Ballot.ensures.len, few))
    ∙ (c.set_row.ensures (omega (arith, within, few)) ∙ ap (λ (os : List (Option ℕ)). set os x.place x.row) c.deref_mut-in-Ballot.ensures.value))

pub returns-in-Nomination-clause-region : goal.returns-in-Nomination-clause-region
returns-in-Nomination-clause-region c = λ own configured table e entry is.
    let v = c.args.self.now.nominations in
    let x = c.args.entry in
    let now = c.set_at-in-Nomination.new.entries in
    let w = c.args.self.now.nomination_rows in
    let rows = c.set_row-in-Nomination.new.rows in
    let few = ap (λ (os : List (Option ℕ)). length os) c.deref_mut-in-Nomination-2.ensures.value in
    let many = ap (λ (cs : List (Option Numbered)). length cs) c.deref_mut-in-Nomination.ensures.value in
    nomination_set table e c.args.self.now own configured is x entry c.in-Nomination.is c.with_place-self.result (with_items v now) (λ within.
    with_items_is v now (omega (arith, c.set_at-in-Nomination.auto.entries, c.deref_mut-in-Nomination.ensures.len, many))
    ∙ (c.set_at-in-Nomination.ensures (omega (arith, within, many)) ∙ ap (λ (cs : List (Option Numbered)). set cs x.place (Some x.slices)) c.deref_mut-in-Nomination.ensures.value))
    (with_items w rows) (λ within.
    with_items_is w rows (omega (arith, c.set_row-in-Nomination.auto.rows, c.deref_mut-in-Nomination-2.ensures.len, few))
    ∙ (c.set_row-in-Nomination.ensures (omega (arith, within, few)) ∙ ap (λ (os : List (Option ℕ)). set os x.place x.row) c.deref_mut-in-Nomination-2.ensures.value))
