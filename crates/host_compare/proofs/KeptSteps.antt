-- What is kept of a run, entry after entry, and the numbers of the entries that are kept.
use Rattle.std.proofs.Common.{◌≡◌, ℕ, zero, suc, ◌+◌, ◌<◌, ◌≤◌, Bool, true, false, ◌&&◌, ◌==◌, List, [], ◌∷◌, ◌++◌, length, map, filter, cond, take, slice_get, Option, Some, None, option_map, MatchOption, if◌then◌else◌, refl, sym, ◌∙◌, ap, subst, arith}
use Rattle.std.proofs.lemmas.List.{length-map, map-append, take_all}
use Rattle.std.proofs.lemmas.List.Elements.{filter-append, filter_map-append}
use Rattle.std.proofs.lemmas.Option.{slice_get-map}
use Rattle.std.specs.List.{range_with_len}
use Rattle.scp_spec.specs.Sets.{Names}
use Rattle.scp_spec.specs.Networks.{Step}
use Rattle.scp_spec.specs.Networks.Reading.{Read, Fault}
use Rattle.scp_spec.specs.Networks.Step.{Opens, Closes, Proposes, Delivers, Hears, NominationTimerFires, BallotTimerFires, Reslices}
use Rattle.scp_spec.specs.Hosts.{Entry}
use Rattle.scp_spec.specs.Isolation.{KeptStep, kept_step, kept_of, when_kept}
use Rattle.host_closure.proofs.Places.{front_at, past_end, there_is}
use Rattle.host_compare.specs.Steps.{IsKeptEntry, core, event_at, is_kept_in, is_kept_step, kept_numbers}

when_is : (b : Bool) (k : KeptStep) → when_kept b k ≡ (if b then Some k else None)
when_is true k = refl
when_is false k = refl

kept_is : (R : Names) (i : ℕ) (s : Step) → kept_step R i s ≡ (if is_kept_step R i s then Some (core s) else None)
kept_is R i (Opens j) = when_is (j == i) (core (Opens j))
kept_is R i (Closes j) = when_is (j == i) (core (Closes j))
kept_is R i (Proposes j u x) = when_is ((j == i) && R u) (core (Proposes j u x))
kept_is R i (Delivers u size (Read e)) = when_is ((e.slot == i) && R u && R e.sender) (core (Delivers u size (Read e)))
kept_is R i (Delivers u size (Fault n)) = refl
kept_is R i (Hears j u from kind k) = when_is ((j == i) && R u && R from) (core (Hears j u from kind k))
kept_is R i (NominationTimerFires j u r) = when_is ((j == i) && R u) (core (NominationTimerFires j u r))
kept_is R i (BallotTimerFires j u n) = when_is ((j == i) && R u) (core (BallotTimerFires j u n))
kept_is R i (Reslices j u q) = when_is ((j == i) && R u) (core (Reslices j u q))

-- ---- what passes a test, of ascending numbers
range_more : (a n b : ℕ) → a + n ≡ b → range_with_len a (suc n) ≡ range_with_len a n ++ b ∷ []
range_more a zero b e = let s : a ≡ b = omega (arith, e) in ap (λ k. k ∷ []) s
range_more a (suc n) b e = ap (λ (ks : List ℕ). a ∷ ks) (range_more (a + 1) n b (omega (arith, e)))

-- the number at a place: it passes, and so many before it do
passed_at : (p : ℕ → Bool) (n a place k : ℕ) → slice_get (filter p (range_with_len a n)) place ≡ Some k → (d : ℕ) × (k ≡ a + d) × (d < n) × (p k ≡ true) × (length (filter p (range_with_len a d)) ≡ place)
passed_at p zero a place k e = cc
passed_at p (suc n) a place k e = go (p a) refl place e (λ m f. passed_at p n (a + 1) m k f)
  where
    go : (b : Bool) → p a ≡ b → (m : ℕ) → slice_get (cond b (a ∷ filter p (range_with_len (a + 1) n)) (filter p (range_with_len (a + 1) n))) m ≡ Some k
        → ((j : ℕ) → slice_get (filter p (range_with_len (a + 1) n)) j ≡ Some k → (d : ℕ) × (k ≡ (a + 1) + d) × (d < n) × (p k ≡ true) × (length (filter p (range_with_len (a + 1) d)) ≡ j))
        → (d : ℕ) × (k ≡ a + d) × (d < suc n) × (p k ≡ true) × (length (filter p (range_with_len a d)) ≡ m)
    go true q zero f ih = let same : a ≡ k = cc in (0, omega (arith, same), omega arith, subst (λ j. p j ≡ true) same q, refl)
    go true q (suc m) f ih = let r = ih m f in let s = r.1 in let l = r.2 in (suc r.0, omega (arith, s), omega (arith, l), r.3, ap (λ b. length (cond b (a ∷ filter p (range_with_len (a + 1) r.0)) (filter p (range_with_len (a + 1) r.0)))) q ∙ ap suc r.4)
    go false q m f ih = let r = ih m f in let s = r.1 in let l = r.2 in (suc r.0, omega (arith, s), omega (arith, l), r.3, ap (λ b. length (cond b (a ∷ filter p (range_with_len (a + 1) r.0)) (filter p (range_with_len (a + 1) r.0)))) q ∙ r.4)

module _ (R : Names) (i : ℕ) where
  kept_head : (x : Entry) (xs : List Entry) (b : Bool) → is_kept_step R i x.event ≡ b → kept_of R i (x ∷ xs) ≡ (if b then core x.event ∷ kept_of R i xs else kept_of R i xs)
  unfolding kept_of
  kept_head x xs true e = let k : kept_step R i x.event ≡ Some (core x.event) = kept_is R i x.event ∙ ap (λ b. if b then Some (core x.event) else None) e in rw k refl
  kept_head x xs false e = let k : kept_step R i x.event ≡ None = kept_is R i x.event ∙ ap (λ b. if b then Some (core x.event) else None) e in rw k refl

  kept_at_first : (run : List Entry) → kept_of R i (take 0 run) ≡ []
  unfolding kept_of
  kept_at_first run = refl

  module _ (run : List Entry) where
    abbrev is_here : ℕ → Bool
    is_here n = is_kept_in R i (event_at run n)

    abbrev at : ℕ → Option KeptStep
    at n = option_map core (event_at run n)

    -- ---- one entry more
    module _ (n : ℕ) (x : Entry) (there : slice_get run n ≡ Some x) where
      step_is : is_kept_step R i x.event ≡ is_here n
      step_is = ap (λ (o : Option Entry). is_kept_in R i (option_map (λ (y : Entry). y.event) o)) (sym there)

      at_is : at n ≡ Some (core x.event)
      at_is = ap (λ (o : Option Entry). option_map core (option_map (λ (y : Entry). y.event) o)) there

      more : kept_of R i (take (n + 1) run) ≡ kept_of R i (take n run) ++ (if is_here n then core x.event ∷ [] else [])
      unfolding kept_of
      more =
          ap (λ (ys : List Entry). kept_of R i ys) (front_at run n x there)
          ∙ filter_map-append (λ (y : Entry). kept_step R i y.event) (take n run) (x ∷ [])
          ∙ ap (λ (ys : List KeptStep). kept_of R i (take n run) ++ ys) (kept_head x [] (is_here n) step_is)

      one_more : map Some (kept_of R i (take n run)) ≡ map at (filter is_here (range_with_len 0 n)) → map Some (kept_of R i (take (n + 1) run)) ≡ map at (filter is_here (range_with_len 0 (suc n)))
      one_more was =
          ap (map Some) more ∙ map-append Some (kept_of R i (take n run)) (if is_here n then core x.event ∷ [] else [])
          ∙ (λ j. was j ++ go (is_here n) j)
          ∙ sym (ap (λ (ks : List ℕ). map at (filter is_here ks)) (range_more 0 n n (omega arith)) ∙ ap (map at) (filter-append is_here (range_with_len 0 n) (n ∷ [])) ∙ map-append at (filter is_here (range_with_len 0 n)) (filter is_here (n ∷ [])))
        where
          go : (b : Bool) → map Some (if b then core x.event ∷ [] else []) ≡ map at (cond b (n ∷ []) [])
          go true = ap (λ (o : Option KeptStep). o ∷ []) (sym at_is)
          go false = refl

    kept_below : (n : ℕ) → n ≤ length run → map Some (kept_of R i (take n run)) ≡ map at (filter is_here (range_with_len 0 n))
    kept_below zero l = ap (map Some) (kept_at_first run)
    kept_below (suc n) l = let p = there_is run n (omega (arith, l)) in let next : suc n ≡ n + 1 = omega arith in
        ap (λ m. map Some (kept_of R i (take m run))) next ∙ one_more n p.0 p.1 (kept_below n (omega (arith, l)))

    pub kept_are : map Some (kept_of R i run) ≡ map at (kept_numbers R i run)
    kept_are = ap (λ (ys : List Entry). map Some (kept_of R i ys)) (sym (take_all (length run) run (omega arith))) ∙ kept_below (length run) (omega arith)

    so_many : (n : ℕ) → n ≤ length run → length (kept_of R i (take n run)) ≡ length (filter is_here (range_with_len 0 n))
    so_many n l = sym (length-map (kept_of R i (take n run)) Some) ∙ (ap (λ (os : List (Option KeptStep)). length os) (kept_below n l) ∙ length-map (filter is_here (range_with_len 0 n)) at)

    -- ---- the entry at a place among the kept steps
    pub entry_is : (place : ℕ) (o : Option ℕ) → option_map (λ k. k) o ≡ slice_get (kept_numbers R i run) place → MatchOption o (length (kept_of R i run) ≤ place) (IsKeptEntry R i run place)
    entry_is place None e =
        let all = past_end (kept_numbers R i run) place (sym e) in
        let many = ap (λ (ys : List Entry). length (kept_of R i ys)) (sym (take_all (length run) run (omega arith))) ∙ so_many (length run) (omega arith) in
        omega (arith, all, many)
    entry_is place (Some k) e =
        let r = passed_at is_here (length run) 0 place k (sym e) in
        let same : r.0 ≡ k = let s = r.1 in omega (arith, s) in
        let inside : k < length run = let l = r.2 in omega (arith, l, same) in
        let x = there_is run k inside in
        let is : is_kept_step R i x.0.event ≡ true = step_is k x.0 x.1 ∙ r.3 in
        record {
          entry = x.0;
          there = x.1;
          concerns = is;
          before = so_many k (omega (arith, inside)) ∙ (ap (λ d. length (filter is_here (range_with_len 0 d))) (sym same) ∙ r.4);
          step = one (slice_get (kept_of R i run) place) (core x.0.event) (sym (slice_get-map Some (kept_of R i run) place)
              ∙ (ap (λ (os : List (Option KeptStep)). slice_get os place) kept_are ∙ (slice_get-map at (kept_numbers R i run) place ∙ (ap (option_map at) (sym e) ∙ ap Some (at_is k x.0 x.1)))))
              ∙ sym (kept_is R i x.0.event ∙ ap (λ b. if b then Some (core x.0.event) else None) is);
        }
      where
        one : (p : Option KeptStep) (z : KeptStep) → option_map Some p ≡ Some (Some z) → p ≡ Some z
        one None z q = cc
        one (Some y) z q = cc
