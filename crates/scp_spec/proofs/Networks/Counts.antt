-- What a network counts follows from its journal. The law `room_is_counted`, `Drawn`, `Room` and the crate
-- `host_network` stand on it.
use Rattle.std.proofs.Common.{◌≡◌, ℕ, zero, Bool, true, false, not, ◌&&◌, ◌==◌, ◌+◌, length, sum_by, Option, Some, None, List, [], ◌∷◌, ◌++◌, filter, cond, if◌then◌else◌, append-nil, append_assoc, refl, sym, ◌∙◌, ap, ap₂, subst, arith}
use Rattle.std.proofs.lemmas.Bool.{and_parts, eqb-true, false≢true}
use Rattle.std.proofs.lemmas.List.{length-append}
use Rattle.std.proofs.lemmas.List.Elements.{filter-append}
use Rattle.std.proofs.lemmas.List.Sums.{sum_by-append, fold-append}
use Rattle.scp_spec.specs.Rosters.{Share, Source, Draw, same_share, drawn_on, Roster}
use Rattle.scp_spec.specs.Rosters.Source.{OfBudgets, OfOpens, OfShare}
use Rattle.scp_spec.specs.Networks.{Net, Step, source, size_of, on_budgets, on_opens, on_shares, draws_after_opening}
use Rattle.scp_spec.specs.Networks.Step.{Opens}
use Rattle.scp_spec.specs.Hosts.{Config, Entry, new_net}
use Rattle.scp_spec.specs.Runs.{net_after}
use Rattle.scp_spec.specs.Counts.{is_of_budgets, is_of_opens, is_of_share, drawing_entries, bytes_in, is_opening, since_opened, IsCountOf, RunsAreCounted}
use Rattle.scp_spec.proofs.Sets.Lists.{filter_filter}
use Rattle.scp_spec.proofs.Sets.Numbers.{turned}
use Rattle.scp_spec.proofs.Networks.Effects.{effect-keeps, left}
pub use Rattle.scp_spec.proofs.Networks.Effects.{next}
use Rattle.scp_spec.proofs.Networks.Journals.{RunsFrom, run-moves, runs-next}

-- ---- sums
-- a sum over lists: how many there are, or how many bytes they have
pub record IsSum {A : Type 0} (sum : List A → ℕ) (each : A → ℕ) : Type 0 where
  none : sum [] ≡ 0
  one : (x : A) → sum (x ∷ []) ≡ each x
  joined : (xs ys : List A) → sum (xs ++ ys) ≡ sum xs + sum ys

pub sum-length : {A : Type 0} → IsSum (length {A = A}) (λ x. 1)
sum-length = record { none = refl; one = λ x. refl; joined = λ xs ys. length-append xs ys }

pub sum-each : {A : Type 0} (f : A → ℕ) → IsSum (sum_by f) f
sum-each f = record { none = refl; one = λ x. omega arith; joined = λ xs ys. sum_by-append f xs ys }

module _ {A : Type 0} (sum : List A → ℕ) (each : A → ℕ) (is : IsSum sum each) where
  sum-if : (b : Bool) (x : A) → sum (cond b (x ∷ []) []) ≡ (if b then each x else 0)
  sum-if true x = is.one x
  sum-if false x = is.none

  -- with one more
  sum-more : (p : A → Bool) (xs : List A) (x : A)
      → sum (filter p (xs ++ x ∷ [])) ≡ sum (filter p xs) + (if p x then each x else 0)
  sum-more p xs x =
      ap sum (filter-append p xs (x ∷ []))
      ∙ (is.joined (filter p xs) (filter p (x ∷ [])) ∙ ap (λ n. sum (filter p xs) + n) (sum-if (p x) x))

-- ---- what a source draws
on_budgets-is : (s : Source) (n : ℕ) → on_budgets s n ≡ (if is_of_budgets s then n else 0)
on_budgets-is OfBudgets n = refl
on_budgets-is (OfOpens shares) n = refl
on_budgets-is (OfShare shares i t) n = refl

on_opens-is : (s : Source) → on_opens s ≡ (if is_of_opens s then 1 else 0)
on_opens-is OfBudgets = refl
on_opens-is (OfOpens shares) = refl
on_opens-is (OfShare shares i t) = refl

-- ---- what an opening leaves of the draws
module _ (i : ℕ) (t : Share) where
  none-drawn : (ds : List Draw) → drawn_on i t (draws_after_opening i ds) ≡ []
  none-drawn [] = refl
  none-drawn (d ∷ ds) = go (d.slot == i) refl (none-drawn ds)
    where
      go : (b : Bool) → (d.slot == i) ≡ b → drawn_on i t (draws_after_opening i ds) ≡ []
          → drawn_on i t (cond (not b) (d ∷ draws_after_opening i ds) (draws_after_opening i ds)) ≡ []
      go true e ih = ih
      go false e ih = rw e ih

  drawn-opened : (e : Step) (ds : List Draw) → is_opening i e ≡ true → drawn_on i t (left e ds) ≡ []
  drawn-opened (Opens j) ds o = subst (λ k. drawn_on i t (draws_after_opening k ds) ≡ []) (sym (eqb-true j i o)) (none-drawn ds)
  drawn-opened _ ds o = absurd (false≢true o)

  nothing-opened : (roster : Option Roster) (e : Step) (size : ℕ) → is_opening i e ≡ true
      → on_shares (source roster e) size ≡ []
  nothing-opened None (Opens j) size o = refl
  nothing-opened (Some r) (Opens j) size o = refl
  nothing-opened roster _ size o = absurd (false≢true o)

  drawn-left : (e : Step) (ds : List Draw) → is_opening i e ≡ false → drawn_on i t (left e ds) ≡ drawn_on i t ds
  drawn-left (Opens j) ds o =
      filter_filter (λ d. not (d.slot == j)) (λ d. (d.slot == i) && same_share d.share t) (λ d h.
      let p = and_parts (d.slot == i) (same_share d.share t) h in
      let q : d.slot ≡ i = eqb-true d.slot i p.0 in ap (λ k. not (k == j)) q ∙ ap not (turned j i o)) ds
  drawn-left _ ds o = refl

-- the entries since an opening, with one more
pub since-more : (i : ℕ) (xs : List Entry) (x : Entry)
    → since_opened i (xs ++ x ∷ []) ≡ (if is_opening i x.event then [] else since_opened i xs ++ x ∷ [])
since-more i xs x =
    fold-append
    (λ (since : List Entry) (y : Entry). if is_opening i y.event then [] else since ++ y ∷ []) [] xs (x ∷ [])

swap : (a b : ℕ) → a + b ≡ b + a
swap a b = omega arith

-- ---- one step more
module _ (net : Net) (e : Step) (i : ℕ) (t : Share) where
  -- the draws on a share after it
  pub drawn-anew : is_opening i e ≡ true → drawn_on i t (next net e).draws ≡ []
  drawn-anew o =
      ap₂ (λ (ds es : List Draw). drawn_on i t (ds ++ es)) (nothing-opened i t net.roster e (size_of e) o)
      (effect-keeps net e).draws ∙ drawn-opened i t e net.draws o

  drawn-more : is_opening i e ≡ false
      → drawn_on i t (next net e).draws ≡ drawn_on i t (on_shares (source net.roster e) (size_of e))
      ++ drawn_on i t net.draws
  drawn-more o =
      ap (λ (es : List Draw). drawn_on i t (on_shares (source net.roster e) (size_of e) ++ es))
      (effect-keeps net e).draws
      ∙ (filter-append (λ d. (d.slot == i) && same_share d.share t) (on_shares (source net.roster e) (size_of e))
      (left e net.draws)
      ∙ ap (λ (ds : List Draw). drawn_on i t (on_shares (source net.roster e) (size_of e)) ++ ds)
      (drawn-left i t e net.draws o))

  -- a sum over them, of which each draw has its part by its size
  module _ (f : ℕ → ℕ) (sum : List Draw → ℕ) (is : IsSum sum (λ d. f d.size)) where
    sum-drawn : (s : Source) (size : ℕ)
        → sum (drawn_on i t (on_shares s size)) ≡ (if is_of_share i t s then f size else 0)
    sum-drawn OfBudgets size = is.none
    sum-drawn (OfOpens shares) size = is.none
    sum-drawn (OfShare shares j u) size =
        sum-if sum (λ d. f d.size) is ((j == i) && same_share u t) (record { slot = j; share = u; size = size })

    pub drawn-next : is_opening i e ≡ false
        → sum (drawn_on i t (next net e).draws)
        ≡ sum (drawn_on i t net.draws) + (if is_of_share i t (source net.roster e) then f (size_of e) else 0)
    drawn-next o =
        let new = drawn_on i t (on_shares (source net.roster e) (size_of e)) in
        ap sum (drawn-more o)
        ∙ (is.joined new (drawn_on i t net.draws)
        ∙ (swap (sum new) (sum (drawn_on i t net.draws))
        ∙ ap (λ n. sum (drawn_on i t net.draws) + n) (sum-drawn (source net.roster e) (size_of e))))

module _ (config : Config) (before : List Entry) (net : Net) (x : Entry) (h : net.roster ≡ config.roster)
    (c : IsCountOf config before net) where
  there : source net.roster x.event ≡ source config.roster x.event
  there = ap (λ o. source o x.event) h

  -- the entries since its opening
  since-anew : (i : ℕ) → is_opening i x.event ≡ true → since_opened i (before ++ x ∷ []) ≡ []
  since-anew i o = since-more i before x ∙ ap (λ b. if b then [] else since_opened i before ++ x ∷ []) o

  since-next : (i : ℕ) → is_opening i x.event ≡ false
      → since_opened i (before ++ x ∷ []) ≡ since_opened i before ++ x ∷ []
  since-next i o = since-more i before x ∙ ap (λ b. if b then [] else since_opened i before ++ x ∷ []) o

  -- a sum over the entries that draw on something, with one more
  sum-drawing_entries : (sum : List Entry → ℕ) (each : Entry → ℕ) → IsSum sum each → (test : Source → Bool) (xs : List Entry)
      → sum (drawing_entries config test xs) + (if test (source net.roster x.event) then each x else 0)
      ≡ sum (drawing_entries config test (xs ++ x ∷ []))
  sum-drawing_entries sum each is test xs =
      ap (λ s. sum (drawing_entries config test xs) + (if test s then each x else 0)) there
      ∙ sym (sum-more sum each is (λ y. test (source config.roster y.event)) xs x)

  -- over those on a share, where the draws on it have the same sum
  share-next : (f : ℕ → ℕ) (of_draws : List Draw → ℕ) (of_entries : List Entry → ℕ)
      → IsSum of_draws (λ d. f d.size) → IsSum of_entries (λ y. f (size_of y.event)) → (i : ℕ) (t : Share)
      → of_draws (drawn_on i t net.draws) ≡ of_entries (drawing_entries config (is_of_share i t) (since_opened i before))
      → of_draws (drawn_on i t (next net x.event).draws)
      ≡ of_entries (drawing_entries config (is_of_share i t) (since_opened i (before ++ x ∷ [])))
  share-next f of_draws of_entries draws entries i t same = go (is_opening i x.event) refl
    where
      of_share : List Entry → ℕ
      of_share xs = of_entries (drawing_entries config (is_of_share i t) xs)

      go : (b : Bool) → is_opening i x.event ≡ b
          → of_draws (drawn_on i t (next net x.event).draws) ≡ of_share (since_opened i (before ++ x ∷ []))
      go true o = ap of_draws (drawn-anew net x.event i t o)
          ∙ (draws.none ∙ (sym entries.none ∙ sym (ap of_share (since-anew i o))))
      go false o =
          drawn-next net x.event i t f of_draws draws o
          ∙ (ap (λ n. n + (if is_of_share i t (source net.roster x.event) then f (size_of x.event) else 0)) same
          ∙ (sum-drawing_entries of_entries (λ y. f (size_of y.event)) entries (is_of_share i t) (since_opened i before)
          ∙ sym (ap of_share (since-next i o))))

  count-next : IsCountOf config (before ++ x ∷ []) (next net x.event)
  count-next =
      let k = effect-keeps net x.event in
      let s : Source = source net.roster x.event in
      let bytes : IsSum bytes_in (λ y. size_of y.event) = sum-each (λ y. size_of y.event) in
      record {
        events = ap₂ (λ a b. a + b) (k.events ∙ c.events) (on_budgets-is s 1)
            ∙ sum-drawing_entries length (λ y. 1) sum-length is_of_budgets before;
        bytes = ap₂ (λ a b. a + b) (k.bytes ∙ c.bytes) (on_budgets-is s (size_of x.event))
            ∙ sum-drawing_entries bytes_in (λ y. size_of y.event) bytes is_of_budgets before;
        opens = ap₂ (λ a b. a + b) (k.opens ∙ c.opens) (on_opens-is s)
            ∙ sum-drawing_entries length (λ y. 1) sum-length is_of_opens before;
        share_events = λ i t. share-next (λ n. 1) length length sum-length sum-length i t (c.share_events i t);
        share_bytes = λ i t. share-next (λ n. n) (sum_by (λ d. d.size)) bytes_in (sum-each (λ d. d.size)) bytes i t
            (c.share_bytes i t);
      }

-- ---- a whole run
counted-run : (config : Config) (xs before : List Entry) (net : Net) → net.roster ≡ config.roster
    → IsCountOf config before net → RunsFrom net xs → IsCountOf config (before ++ xs) (net_after net xs)
unfolding net_after
counted-run config [] before net h c r = subst (λ ys. IsCountOf config ys net) (sym (append-nil before)) c
counted-run config (x ∷ xs) before net h c r =
    subst (λ n. IsCountOf config (before ++ x ∷ xs) n) (sym (run-moves net x xs (r.applied zero x refl)))
    (subst (λ ys. IsCountOf config ys (net_after (next net x.event) xs)) (append_assoc before (x ∷ []) xs)
    (counted-run config xs (before ++ x ∷ []) (next net x.event) ((effect-keeps net x.event).roster ∙ h)
    (count-next config before net x h c) (runs-next net x xs r)))

pub runs_are_counted : RunsAreCounted
runs_are_counted config xs run =
    counted-run config xs [] (new_net config) refl
    (record { events = refl; bytes = refl; opens = refl; share_events = λ i t. refl; share_bytes = λ i t. refl })
    (record { applied = run.applied; outs = run.outs })
