use Rattle.std.proofs.Common.{◌≡◌, ◌==◌, ◌||◌, ◌∙◌, ◌∷◌, [], List, ℕ, ap, false, get_or, refl, rules, sym}
use Rattle.std.proofs.lemmas.Bool.{eq-eqb, or_left, or_right}
use Rattle.std.proofs.lemmas.List.{append-nil, nil_from_length}
use Rattle.scp_spec.specs.Sets.{among}
use Rattle.node_reach.proofs.Finding.{is_over, takes_place}
use Rattle.node_reach.proofs.Noted.{among_append}
use Rattle.node_reach.proofs.search.Search.take.Goals as goal

pub rows_at-requires-clause-within : goal.rows_at-requires-clause-within
rows_at-requires-clause-within g c =
    let s = c.args.self.now in
    let i = c.in-Some.place in
    let left = c.pop.new.self.items in
    c.requires.search.places i (ap (λ (xs : List ℕ). among xs i) c.in-Some.ensures.items ∙ (among_append left (i ∷ []) i ∙ or_right (among left i) ((i == i) || false) (or_left (i == i) false (eq-eqb i i refl))))

pub returns-in-Some : goal.returns-in-Some
returns-in-Some g c =
    let s = c.args.self.now in
    record {
      node = get_or s.known.nodes.now c.in-Some.place 0;
      taken = takes_place s _ c.requires.search refl refl c.in-Some.place c.in-Some.ensures.items refl;
      theirs = c.rows_at.ensures;
    }

pub returns-in-None : goal.returns-in-None
returns-in-None g c =
    let s = c.args.self.now in
    let others = c.in-None.ensures in
    let none : s.places.items ≡ [] = search (nil_from_length, rules) in
    is_over s _ c.requires.search refl refl (sym (c.in_default.ensures.items ∙ append-nil c.pop.new.self.items)) others.1 none others.0
