-- What each rule of PREPARE does to the votes, and where it does nothing: p, h, b that becomes h, and c. `Passes`
-- stands on it.
use Rattle.std.proofs.Common.{◌≡◌, ℕ, ◌≤◌, Bool, true, false, not, ◌&&◌, ◌==◌, Option, Some, None, if◌then◌else◌, filter, is_none, refl, sym, ◌∙◌, ap, subst, inl, inr, ◌⊎◌, arith}
use Rattle.std.proofs.lemmas.Bool.{cases_Bool, and_parts, and_from, true≢false, not-true}
use Rattle.scp_types.specs.declared.ballot.Ballot.{Ballot}
use Rattle.scp_spec.specs.Views.{Seen}
use Rattle.scp_types.specs.declared.state.Votes.{Votes}
use Rattle.scp_spec.specs.States.{below, high_counter}
use Rattle.scp_spec.specs.Candidates.{greatest, named_ballots}
use Rattle.scp_spec.specs.Balloting.{aborted_by, is_accepted, is_confirmed, may_be_prepared, accept_prepared, raise_confirmed_prepared, follow_confirmed_prepared, is_aborted, set_commit}
use Rattle.scp_spec.specs.Extremes.{IsIn}
use Rattle.scp_spec.proofs.Ballots.Order.{below-self, below-counter}
use Rattle.scp_spec.proofs.Ballots.Above.{above, Under, greatest-keeps, greatest-above, greatest-still, greatest-from, in-filter, from-filter, aborted-same}

-- p
pub accept_prepared-still : (s : Seen) (b : Ballot) (w : Votes)
    → ((t : Ballot) → IsIn t (named_ballots s w) → may_be_prepared w.phase b.value t ≡ true → is_accepted s w t ≡ true
    → above w.prepared t ≡ false) → accept_prepared s b w ≡ w
unfolding accept_prepared
accept_prepared-still s b w f =
    let test : Ballot → Bool = λ t. may_be_prepared w.phase b.value t && is_accepted s w t in
    let e : greatest w.prepared (filter test (named_ballots s w)) ≡ w.prepared =
    greatest-still w.prepared (filter test (named_ballots s w)) (λ t i. let r = from-filter test t (named_ballots s w) i in
    let q = and_parts (may_be_prepared w.phase b.value t) (is_accepted s w t) r.1 in f t r.0 q.0 q.1) in
    λ i. record w {
      prepared = e i;
      aborted =
          (ap (λ p. aborted_by w.prepared p w.aborted) e ∙ aborted-same w.prepared w.aborted) i;
    }

pub record NewPrepared (s : Seen) (b : Ballot) (w : Votes) : Type 0 where
  pub p : Option Ballot
  pub is : accept_prepared s b w ≡ record w { prepared = p; aborted = aborted_by w.prepared p w.aborted }
  pub grows : Under w.prepared p
  pub above : (t : Ballot) → IsIn t (named_ballots s w) → may_be_prepared w.phase b.value t ≡ true → is_accepted s w t ≡ true
      → above p t ≡ false
  pub from : (t : Ballot) → p ≡ Some t → (w.prepared ≡ Some t) ⊎ (may_be_prepared w.phase b.value t ≡ true)

pub accept_prepared-moves : (s : Seen) (b : Ballot) (w : Votes) → NewPrepared s b w
unfolding accept_prepared
accept_prepared-moves s b w =
    let test : Ballot → Bool = λ t. may_be_prepared w.phase b.value t && is_accepted s w t in
    record {
      p = greatest w.prepared (filter test (named_ballots s w));
      is = refl;
      grows = greatest-keeps w.prepared (filter test (named_ballots s w));
      above = λ t i v a. greatest-above w.prepared (filter test (named_ballots s w)) t
          (in-filter test t (named_ballots s w) i (and_from (may_be_prepared w.phase b.value t) (is_accepted s w t) v a));
      from = λ t e. elim (greatest-from w.prepared (filter test (named_ballots s w)) t e) [
        | inl k ↦ inl k
        | inr k ↦ inr
            (and_parts (may_be_prepared w.phase b.value t) (is_accepted s w t) (from-filter test t (named_ballots s w) k).1).0
      ];
    }

-- h
pub raise_confirmed_prepared-still : (s : Seen) (w : Votes)
    → ((t : Ballot) → IsIn t (named_ballots s w) → is_confirmed s w t ≡ true → above w.confirmed_prepared t ≡ false)
    → raise_confirmed_prepared s w ≡ w
unfolding raise_confirmed_prepared
raise_confirmed_prepared-still s w f =
    let e : greatest w.confirmed_prepared (filter (is_confirmed s w) (named_ballots s w)) ≡ w.confirmed_prepared =
    greatest-still w.confirmed_prepared (filter (is_confirmed s w) (named_ballots s w))
    (λ t i. let r = from-filter (is_confirmed s w) t (named_ballots s w) i in f t r.0 r.1) in
    λ i. record w { confirmed_prepared = e i }

pub record NewHigh (s : Seen) (w : Votes) : Type 0 where
  pub h : Option Ballot
  pub is : raise_confirmed_prepared s w ≡ record w { confirmed_prepared = h }
  pub above : (t : Ballot) → IsIn t (named_ballots s w) → is_confirmed s w t ≡ true → above h t ≡ false
  pub from : (t : Ballot) → h ≡ Some t → (w.confirmed_prepared ≡ Some t) ⊎ (is_confirmed s w t ≡ true)
  pub stays : is_none w.confirmed_prepared ≡ false → is_none h ≡ false

high-stays : (o p : Option Ballot) → Under o p → is_none o ≡ false → is_none p ≡ false
high-stays None p u n = absurd (true≢false n)
high-stays (Some x) None u n = absurd (true≢false u)
high-stays (Some x) (Some y) u n = refl

pub raise_confirmed_prepared-moves : (s : Seen) (w : Votes) → NewHigh s w
unfolding raise_confirmed_prepared
raise_confirmed_prepared-moves s w = record {
  h = greatest w.confirmed_prepared (filter (is_confirmed s w) (named_ballots s w));
  is = refl;
  above = λ t i c. greatest-above w.confirmed_prepared (filter (is_confirmed s w) (named_ballots s w)) t
      (in-filter (is_confirmed s w) t (named_ballots s w) i c);
  from = λ t e. elim (greatest-from w.confirmed_prepared (filter (is_confirmed s w) (named_ballots s w)) t e) [
    | inl k ↦ inl k
    | inr k ↦ inr (from-filter (is_confirmed s w) t (named_ballots s w) k).1
  ];
  stays = high-stays w.confirmed_prepared (greatest w.confirmed_prepared (filter (is_confirmed s w) (named_ballots s w)))
      (greatest-keeps w.confirmed_prepared (filter (is_confirmed s w) (named_ballots s w)));
}

-- b becomes h
pub follow_confirmed_prepared-still : (b : Ballot) (w : Votes) → w.ballot ≡ Some b
    → ((h : Ballot) → w.confirmed_prepared ≡ Some h → below b h ≡ false) → follow_confirmed_prepared b w ≡ w
unfolding follow_confirmed_prepared
follow_confirmed_prepared-still b w e f = go w.confirmed_prepared refl
  where
    go : (o : Option Ballot) → w.confirmed_prepared ≡ o → follow_confirmed_prepared b w ≡ w
    go None k = rw (k, e) refl
    go (Some h) k = let q : below b h ≡ false = f h k in rw (k, q, e) refl

pub record NewBallot (b : Ballot) (w : Votes) : Type 0 where
  pub n : Ballot
  pub is : follow_confirmed_prepared b w ≡ record w { ballot = Some n }
  pub from : (n ≡ b) ⊎ (w.confirmed_prepared ≡ Some n)
  pub above : (h : Ballot) → w.confirmed_prepared ≡ Some h → below n h ≡ false
  pub grows : b.counter ≤ n.counter

pub follow_confirmed_prepared-moves : (b : Ballot) (w : Votes) → NewBallot b w
unfolding follow_confirmed_prepared
follow_confirmed_prepared-moves b w = go w.confirmed_prepared refl
  where
    at : (h : Ballot) (c : Bool) → w.confirmed_prepared ≡ Some h → below b h ≡ c → NewBallot b w
    at h true k q =
        record {
          n = h;
          is = rw (k, q) refl;
          from = inr k;
          above = λ x e. let z : x ≡ h = cc in subst (λ y. below h y ≡ false) (sym z) (below-self h);
          grows = below-counter b h q;
        }
    at h false k q =
        record {
          n = b;
          is = rw (k, q) refl;
          from = inl refl;
          above = λ x e. let z : x ≡ h = cc in subst (λ y. below b y ≡ false) (sym z) q;
          grows = omega arith;
        }

    go : (o : Option Ballot) → w.confirmed_prepared ≡ o → NewBallot b w
    go None k = record { n = b; is = rw k refl; from = inl refl; above = λ h e. cc; grows = omega arith }
    go (Some h) k = at h (below b h) k refl

-- c
abbrev pub Fixed : Votes → Option Ballot → Type 0
Fixed w None = (b : Ballot) → w.ballot ≡ Some b → ((high_counter w b == b.counter) && not (is_aborted w b)) ≡ false
Fixed w (Some c) = is_aborted w c ≡ false

-- which does not look at c, nor at what is armed
pub fixed-unread : (w : Votes) (c d : Option Ballot) (k : ℕ) → Fixed w c → Fixed (record w { commit = d; armed = k }) c
unfolding is_aborted high_counter
fixed-unread w None d k h = h
fixed-unread w (Some c) d k h = h

pub set_commit-still : (w : Votes) (c : Option Ballot) → w.commit ≡ c → Fixed w c → set_commit w ≡ w
unfolding set_commit is_aborted high_counter
set_commit-still w (Some c) e f = go w.ballot refl
  where
    go : (o : Option Ballot) → w.ballot ≡ o → set_commit w ≡ w
    go None k = rw (k, e, f) refl
    go (Some b) k = rw (k, e, f) refl
set_commit-still w None e f = go w.ballot refl
  where
    go : (o : Option Ballot) → w.ballot ≡ o → set_commit w ≡ w
    go None k = rw (k, e) refl
    go (Some b) k =
        let q : ((high_counter w b == b.counter) && not (is_aborted w b)) ≡ false = f b k in rw (k, e, q) refl

pub record NewCommit (w : Votes) : Type 0 where
  pub c : Option Ballot
  pub is : set_commit w ≡ record w { commit = c }
  pub fixed : Fixed w c

pub set_commit-moves : (w : Votes) → NewCommit w
unfolding set_commit is_aborted high_counter
set_commit-moves w = go w.ballot w.commit refl refl
  where
    fresh : (b : Ballot) (c : Bool) → w.ballot ≡ Some b → ((high_counter w b == b.counter) && not (is_aborted w b)) ≡ c
        → set_commit w ≡ record w { commit = if c then Some b else None } → NewCommit w
    fresh b true e q is =
        record {
          c = Some b;
          is = is;
          fixed = not-true _
              (and_parts (high_counter w b == b.counter) (not (is_aborted w b)) q).1;
        }
    fresh b false e q is =
        record {
          c = None;
          is = is;
          fixed = λ x k. let z : x ≡ b = cc in
              subst (λ y. ((high_counter w y == y.counter) && not (is_aborted w y)) ≡ false) (sym z) q;
        }

    go : (o c : Option Ballot) → w.ballot ≡ o → w.commit ≡ c → NewCommit w
    go None None e k = record { c = None; is = rw (e, k) refl; fixed = λ b q. cc }
    go None (Some c) e k = elim (cases_Bool (is_aborted w c)) [
      | inl a ↦ record { c = None; is = rw (e, k, a) refl; fixed = λ b q. cc }
      | inr a ↦ record { c = Some c; is = rw (e, k, a) refl; fixed = a }
    ]
    go (Some b) None e k = fresh b ((high_counter w b == b.counter) && not (is_aborted w b)) e refl (rw (e, k) refl)
    go (Some b) (Some c) e k = elim (cases_Bool (is_aborted w c)) [
      | inl a ↦ fresh b ((high_counter w b == b.counter) && not (is_aborted w b)) e refl (rw (e, k, a) refl)
      | inr a ↦ record { c = Some c; is = rw (e, k, a) refl; fixed = a }
    ]
