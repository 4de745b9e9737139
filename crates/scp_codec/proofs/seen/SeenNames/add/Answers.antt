use Rattle.std.proofs.Common.{◌∙◌, ap, not, sym, subst, List, ℕ}
use Rattle.scp_codec.specs.Faults.{is_among}
use Rattle.scp_codec.specs.FoundNames.{IsPlace}
use Rattle.scp_codec.proofs.SeenLaws.{found_alike, missing, one_more}
use Rattle.scp_codec.proofs.seen.SeenNames.add.Goals as goal

pub returns-in_default-clause-is_new : goal.returns-in_default-clause-is_new
returns-in_default-clause-is_new c =
    let there = ap (λ (ys : List ℕ). is_among ys c.args.name) (sym c.deref.ensures.value) ∙ c.in_default.ensures in
    let alike = ap (λ (names : List ℕ). is_among names c.args.name) (sym c.self.view_is) ∙ found_alike c.self.inside.in_turn.items c.self.inside.ascending.items c.args.name c.self.invariant in
    sym (ap not (alike ∙ there))

pub invariant_of-self-2 : goal.invariant_of-self-2
invariant_of-self-2 c =
    let place = subst (λ (ys : List ℕ). IsPlace ys c.args.name c.in-Some.place) c.deref.ensures.value c.in-Some.ensures in
    rw (c.push_reserved.ensures.items, c.in_ok-insert.ensures.items, c.reserve.ensures.items) (one_more c.self.inside.in_turn.items c.self.inside.ascending.items c.args.name c.in-Some.place c.self.invariant place)

pub returns-clause-is_new : goal.returns-clause-is_new
returns-clause-is_new c =
    let place = subst (λ (ys : List ℕ). IsPlace ys c.args.name c.in-Some.place) c.deref.ensures.value c.in-Some.ensures in
    let alike = ap (λ (names : List ℕ). is_among names c.args.name) (sym c.self.view_is) ∙ found_alike c.self.inside.in_turn.items c.self.inside.ascending.items c.args.name c.self.invariant in
    sym (ap not (alike ∙ missing c.self.inside.ascending.items c.args.name c.in-Some.place place))
