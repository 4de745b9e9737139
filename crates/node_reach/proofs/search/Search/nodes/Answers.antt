use Rattle.std.proofs.Common.{◌≡◌, ◌||◌, ◌∙◌, List, ℕ, ap, ap₂, subst, sym}
use Rattle.scp_spec.specs.Sets.{among, IsAscending}
use Rattle.std.proofs.lemmas.Bool.{false_from_ne_true, true≢false}
use Rattle.node_reach.specs.Searching.{with_marks}
use Rattle.node_reach.proofs.Finding.{marked_within, picked_among, picked_ascends}
use Rattle.node_reach.proofs.search.Search.nodes.Goals as goal

pub join-requires-clause-nodes : goal.join-requires-clause-nodes
join-requires-clause-nodes c =
    let s = c.args.self.now in
    let made : c.in_ok-nodes.nodes.items ≡ with_marks s.known.nodes.now s.marks.items = c.in_ok-nodes.ensures ∙ ap (with_marks s.known.nodes.now) c.deref.ensures.value in
    subst (λ (us : List ℕ). IsAscending us) (sym made) (picked_ascends s.known.nodes.now s.marks.items c.requires.known)

pub join-requires-clause-apart : goal.join-requires-clause-apart
join-requires-clause-apart c = λ u h.
    let s = c.args.self.now in
    let made : c.in_ok-nodes.nodes.items ≡ with_marks s.known.nodes.now s.marks.items = c.in_ok-nodes.ensures ∙ ap (with_marks s.known.nodes.now) c.deref.ensures.value in
    let stranger = c.requires.apart u (ap (λ (us : List ℕ). among us u) (sym (c.deref-2.ensures.value ∙ c.in_ok-others.ensures)) ∙ h) in
    false_from_ne_true (among c.in_ok-nodes.nodes.items u)
    (λ there. true≢false (sym (marked_within s.known.nodes.now s.marks.items u (sym (picked_among s.known.nodes.now s.marks.items u) ∙ (ap (λ (us : List ℕ). among us u) (sym made) ∙ there))) ∙ stranger))

pub returns-clause-all : goal.returns-clause-all
returns-clause-all c = λ u.
    let s = c.args.self.now in
    let made : c.in_ok-nodes.nodes.items ≡ with_marks s.known.nodes.now s.marks.items = c.in_ok-nodes.ensures ∙ ap (with_marks s.known.nodes.now) c.deref.ensures.value in
    c.in_ok-all.ensures.all u
    ∙ ap₂ (λ a b. a || b) (ap (λ (us : List ℕ). among us u) made ∙ picked_among s.known.nodes.now s.marks.items u) (ap (λ (us : List ℕ). among us u) (c.deref-2.ensures.value ∙ c.in_ok-others.ensures))
