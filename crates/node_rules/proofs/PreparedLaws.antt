-- The counter that the highest accepted ballot aborts fits, and what is accepted as prepared by what is found above it.
use Rattle.std.proofs.Common.{◌≡◌, ℕ, ◌+◌, ◌<◌, max, Bool, true, false, ◌&&◌, ◌||◌, ◌==◌, nat_lt, Option, Some, None, filter, if◌then◌else◌, refl, sym, ap, subst, ◌∙◌, arith}
use Rattle.std.proofs.lemmas.Bool.{true≢false}
use Rattle.std.proofs.lemmas.Bool.Decides.{nat_tests}
use Rattle.scp_types.specs.declared.ballot.Ballot.{Ballot}
use Rattle.scp_types.specs.Votes.{same_value}
use Rattle.scp_types.specs.declared.state.Votes.{Votes}
use Rattle.std.specs.Option.{option_or}
use Rattle.node_rules.specs.Drafted.{Drafted, after}
use Rattle.scp_spec.specs.Views.{Seen}
use Rattle.scp_spec.specs.Candidates.{greatest, named_ballots}
use Rattle.scp_spec.specs.Balloting.{aborted_by, accept_prepared, is_accepted, may_be_prepared}
use Rattle.scp_spec.specs.Passes.{on_ballot, with_ballot}
use Rattle.scp_spec.specs.States.{Under, below}
use Rattle.scp_spec.proofs.Ballots.Above.{greatest-keeps}
use Rattle.scp_spec.proofs.Equality.Sameness.{same_value-refl}
use Rattle.scp_spec.proofs.Ballots.Order.{less, less-total, below-parts}

-- of two ballots the one with the lesser value that is not below the other has the greater counter
pub counter_above : (old new : Ballot) → below new old ≡ false → same_value old.value new.value ≡ false → less old.value new.value ≡ false → old.counter < new.counter
counter_above old new h differ least = above_from old.counter new.counter (less new.value old.value) (sym (below-parts new old) ∙ h) (less-total old.value new.value least differ)
  where
    above_from : (m n : ℕ) (l : Bool) → (nat_lt n m || ((n == m) && l)) ≡ false → l ≡ true → m < n
    above_from m n true h k = grind (arith, nat_tests)
    above_from m n false h k = absurd (true≢false (sym k))

-- ---- a rule by what it finds
-- the node has this ballot
pub by-ballot : (f : Ballot → Votes → Votes) (w : Votes) (b : Ballot) → w.ballot ≡ Some b → on_ballot f w ≡ f b w
by-ballot f w b e = ap (with_ballot f w) e

-- one value aborts nothing
aborted-self : (o : Option Ballot) (a : ℕ) → aborted_by o o a ≡ a
unfolding aborted_by
aborted-self None a = refl
aborted-self (Some b) a = ap (λ t. if t then a else max a (if less b.value b.value then b.counter else b.counter + 1)) (same_value-refl b.value)

-- the highest of those that were accepted and those that are
abbrev highest : Seen → Ballot → Votes → Option Ballot
highest seen b w = greatest w.prepared (filter (λ t. may_be_prepared w.phase b.value t && is_accepted seen w t) (named_ballots seen w))

pub accepted-same : (seen : Seen) (b : Ballot) (w : Votes) → w.ballot ≡ Some b → w.prepared ≡ highest seen b w → w ≡ on_ballot (accept_prepared seen) w
unfolding accept_prepared
accepted-same seen b w is e =
    ap (λ a. record w { aborted = a }) (sym (aborted-self w.prepared w.aborted))
    ∙ ap (λ p. record w { prepared = p; aborted = aborted_by w.prepared p w.aborted }) e
    ∙ sym (by-ballot (accept_prepared seen) w b is)

pub accepted-more : (seen : Seen) (b : Ballot) (w : Votes) (q : Ballot) (a : ℕ) → w.ballot ≡ Some b → Some q ≡ highest seen b w → a ≡ aborted_by w.prepared (Some q) w.aborted → record w { prepared = Some q; aborted = a } ≡ on_ballot (accept_prepared seen) w
unfolding accept_prepared
accepted-more seen b w q a is e made =
    ap (λ n. record w { prepared = Some q; aborted = n }) made
    ∙ ap (λ p. record w { prepared = p; aborted = aborted_by w.prepared p w.aborted }) e
    ∙ sym (by-ballot (accept_prepared seen) w b is)

pub accepted-under : (seen : Seen) (b : Ballot) (w : Votes) (q : Ballot) → Some q ≡ highest seen b w → Under w.prepared (Some q)
accepted-under seen b w q e = subst (Under w.prepared) (sym e) (greatest-keeps w.prepared _)

-- ---- the same, as a draft shows it
pub found-none : (seen : Seen) (b : Ballot) (w : Votes) (o : Option Ballot) (d : Drafted) → w ≡ d.now → w.ballot ≡ Some b → o ≡ None → option_or o w.prepared ≡ highest seen b w → d ≡ after (on_ballot (accept_prepared seen)) d
found-none seen b w o d now is none found =
    let same = accepted-same seen b w is (ap (λ p. option_or p w.prepared) (sym none) ∙ found) in
    let P : Votes → Type 0 = λ u. u ≡ on_ballot (accept_prepared seen) u in
    ap (λ u. record d { now = u }) (subst P now same)

pub found-some : (seen : Seen) (b : Ballot) (w : Votes) (o : Option Ballot) (d : Drafted) (q : Ballot) (a : ℕ) → w ≡ d.now → w.ballot ≡ Some b → o ≡ Some q → option_or o w.prepared ≡ highest seen b w → a ≡ aborted_by w.prepared (Some q) w.aborted
    → after (λ v. record v { aborted = a }) (after (λ v. record v { prepared = Some q }) d) ≡ after (on_ballot (accept_prepared seen)) d
found-some seen b w o d q a now is some found made =
    let more = accepted-more seen b w q a is (ap (λ p. option_or p w.prepared) (sym some) ∙ found) made in
    let P : Votes → Type 0 = λ u. record u { prepared = Some q; aborted = a } ≡ on_ballot (accept_prepared seen) u in
    ap (λ u. record d { now = u }) (subst P now more)

pub found-under : (seen : Seen) (b : Ballot) (w : Votes) (o : Option Ballot) (q : Ballot) → o ≡ Some q → option_or o w.prepared ≡ highest seen b w → Under w.prepared (Some q)
found-under seen b w o q some found = accepted-under seen b w q (ap (λ p. option_or p w.prepared) (sym some) ∙ found)
