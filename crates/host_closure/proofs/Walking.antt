-- Following the announcements of a party, one after another, from the last to the first.
use Rattle.std.proofs.Common.{◌≡◌, ℕ, zero, suc, ◌<◌, ◌≤◌, Bool, true, false, ◌==◌, List, length, get_or, slice_get, Option, Some, None, if◌then◌else◌, refl, sym, ◌∙◌, ap, subst, inl, inr, arith}
use Rattle.std.proofs.lemmas.Bool.{cases_lt, eq-eqb, eqb-true, true≢false, false≢true}
use Rattle.std.proofs.lemmas.Option.{slice_get_within}
use Rattle.scp_spec.specs.Hosts.{Entry}
use Rattle.host_closure.specs.Announcing.{AnnouncedSlices, announced_in, announced_at}
use Rattle.host_closure.specs.Turns.{PartyIndex, IsIndex, is_this, sender_at, receiver_at, last_below}

-- ---- parties
pub sender_is : (i : ℕ) (a : AnnouncedSlices) → a.slot ≡ i → sender_at i (Some a) ≡ Some a.sender
sender_is i a s = go (a.slot == i) (eq-eqb a.slot i s)
  where
    go : (b : Bool) → b ≡ true → (if b then Some a.sender else None) ≡ Some a.sender
    go true q = refl
    go false q = absurd (false≢true q)

pub receiver_is : (i : ℕ) (a : AnnouncedSlices) → a.slot ≡ i → receiver_at i (Some a) ≡ Some a.receiver
receiver_is i a s = go (a.slot == i) (eq-eqb a.slot i s)
  where
    go : (b : Bool) → b ≡ true → (if b then Some a.receiver else None) ≡ Some a.receiver
    go true q = refl
    go false q = absurd (false≢true q)

this_is : (w : ℕ) (o : Option ℕ) → is_this w o ≡ true → o ≡ Some w
this_is w None h = absurd (false≢true h)
this_is w (Some u) h = ap Some (eqb-true u w h)

is_that : (w : ℕ) (o : Option ℕ) → o ≡ Some w → is_this w o ≡ true
is_that w None h = cc
is_that w (Some u) h = let same : u ≡ w = cc in eq-eqb u w same

-- ---- how many numbers there are from the next one down
abbrev pub steps_left : Option ℕ → ℕ
steps_left None = 0
steps_left (Some n) = suc n

module _ (party : Option AnnouncedSlices → Option ℕ) (run : List Entry) (w : ℕ) where
  -- ---- the last announcement below a number
  of_this : ℕ → Bool
  of_this n = is_this w (party (announced_at run n))

  record IsLast (b k : ℕ) : Type 0 where
    pub below : k < b
    pub from : of_this k ≡ true
    pub after : (n : ℕ) → k < n → n < b → of_this n ≡ false

  last_is : (b k : ℕ) → last_below party run w b ≡ Some k → IsLast b k
  unfolding of_this
  last_is zero k e = cc
  last_is (suc b) k e = go (is_this w (party (announced_at run b))) refl e (last_is b k)
    where
      go : (t : Bool) → is_this w (party (announced_at run b)) ≡ t → (if t then Some b else last_below party run w b) ≡ Some k → (last_below party run w b ≡ Some k → IsLast b k) → IsLast (suc b) k
      go true q h f = let same : b ≡ k = cc in record {
        below = omega arith;
        from = subst (λ x. is_this w (party (announced_at run x)) ≡ true) same q;
        after = λ n l m. absurd (omega arith);
      }
      go false q h f = let r = f h in record {
        below = let l = r.below in omega arith;
        from = r.from;
        after = λ n l m. elim (cases_lt n b) [
          | inl a ↦ r.after n l a
          | inr a ↦ let same : b ≡ n = omega arith in subst (λ x. is_this w (party (announced_at run x)) ≡ false) same q
        ];
      }

  none_is : (b : ℕ) → last_below party run w b ≡ None → (n : ℕ) → n < b → of_this n ≡ false
  unfolding of_this
  none_is zero e n l = absurd (omega arith)
  none_is (suc b) e n l = go (is_this w (party (announced_at run b))) refl e (none_is b)
    where
      go : (t : Bool) → is_this w (party (announced_at run b)) ≡ t → (if t then Some b else last_below party run w b) ≡ None → (last_below party run w b ≡ None → (m : ℕ) → m < b → is_this w (party (announced_at run m)) ≡ false) → is_this w (party (announced_at run n)) ≡ false
      go true q h f = cc
      go false q h f = elim (cases_lt n b) [
        | inl a ↦ f h n a
        | inr a ↦ let same : b ≡ n = omega arith in subst (λ x. is_this w (party (announced_at run x)) ≡ false) same q
      ]

  is_of : (n : ℕ) → party (announced_at run n) ≡ Some w → of_this n ≡ true
  unfolding of_this
  is_of n e = is_that w (party (announced_at run n)) e

  -- ---- the walk
  -- all announcements of the party from a number on have been followed
  pub record IsWalked (Done : ℕ → Type 0) (next : Option ℕ) : Type 0 where
    pub below : ℕ
    pub within : below ≤ length run
    pub is : next ≡ last_below party run w below
    pub done : (n : ℕ) → below ≤ n → party (announced_at run n) ≡ Some w → Done n

  pub walk_begins : (Done : ℕ → Type 0) (next : Option ℕ) → party None ≡ None → next ≡ last_below party run w (length run) → IsWalked Done next
  walk_begins Done next silent e = record {
    below = length run;
    within = omega arith;
    is = e;
    done = λ n l h. absurd (past n l h);
  }
    where
      past : (n : ℕ) → length run ≤ n → party (announced_at run n) ≡ Some w → ⊥
      past n l h = go (slice_get run n) refl h
        where
          go : (o : Option Entry) → slice_get run n ≡ o → party (announced_in o) ≡ Some w → ⊥
          go None p q = cc
          go (Some x) p q = let m = slice_get_within run n x p in omega arith

  module _ (d : PartyIndex) (index : IsIndex party run (length run) d) (number : ℕ) (next : Option ℕ) (Done : ℕ → Type 0) (way : IsWalked Done next) (there : next ≡ Some number) where
    here : IsLast way.below number
    here = last_is way.below number (sym way.is ∙ there)

    pub party_here : party (announced_at run number) ≡ Some w
    unfolding of_this
    party_here = this_is w (party (announced_at run number)) here.from

    next_is : get_or d.earlier number None ≡ last_below party run w number
    next_is = let l = here.below in let k = way.within in index.earlier number w (omega arith) party_here

    pub walk_goes_on : (More : ℕ → Type 0) → ((n : ℕ) → Done n → More n) → More number → IsWalked More (get_or d.earlier number None)
    walk_goes_on More keep now = record {
      below = number;
      within = let l = here.below in let k = way.within in omega arith;
      is = next_is;
      done = λ n l h. elim (cases_lt number n) [
        | inl after ↦ elim (cases_lt n way.below) [
          | inl before ↦ absurd (true≢false (sym (is_of n h) ∙ here.after n after before))
          | inr past ↦ keep n (way.done n past h)
        ]
        | inr same ↦ subst More (omega arith) now
      ];
    }

    pub walk_shortens : suc (steps_left (get_or d.earlier number None)) ≤ steps_left next
    walk_shortens = subst (λ o. suc (steps_left (get_or d.earlier number None)) ≤ steps_left o) (sym there) (go (get_or d.earlier number None) next_is)
      where
        go : (o : Option ℕ) → o ≡ last_below party run w number → suc (steps_left o) ≤ suc number
        go None e = omega arith
        go (Some k) e = let l = (last_is number k (sym e)).below in omega arith

  -- where nothing is left, all has been followed
  pub walk_ends : (Done : ℕ → Type 0) → IsWalked Done None → (n : ℕ) → party (announced_at run n) ≡ Some w → Done n
  walk_ends Done way n h = elim (cases_lt n way.below) [
    | inl before ↦ absurd (true≢false (sym (is_of n h) ∙ none_is way.below (sym way.is) n before))
    | inr past ↦ way.done n past h
  ]
