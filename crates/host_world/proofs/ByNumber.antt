-- Journals that ascend by the numbers of their networks.
use Rattle.std.proofs.Common.{◌≡◌, ℕ, zero, suc, ◌<◌, ◌≤◌, ◌==◌, Bool, true, false, nat_lt, length, get_or, List, [], ◌∷◌, ◌++◌, take, drop, set, slice_get, Option, Some, None, option_map, Result, Ok, Err, if◌then◌else◌, refl, sym, ◌∙◌, ap, ap₂, subst, arith, IsTrue, is_some, IfOk, IfErr, OnErr}
use Rattle.std.specs.List.{insert}
use Rattle.std.proofs.lemmas.List.Edits.{length-insert}
use Rattle.std.specs.List.Sorted.{IsBinarySearchResult}
use Rattle.std.specs.Ordering.{nat_cmp}
use Rattle.std.proofs.lemmas.Bool.Decides.{nat_tests}
use Rattle.scp_spec.specs.Sets.{IsAscending}
use Rattle.host_world.proofs.Inserting.{IsPlace, ascending_insert, is_place}
use Rattle.host_config.specs.Configs.{index_in}
use Rattle.host_config.proofs.Names.{place-found, place-nowhere}
use Rattle.std.proofs.lemmas.List.{set-get_or}
use Rattle.std.proofs.lemmas.List.{length-set}
use Rattle.std.proofs.Math.Seq.{map-set_same}
use Rattle.std.proofs.lemmas.Option.{slice_get_read}
use Rattle.std.proofs.lemmas.List.{map-append, take-map, drop-map}
use Rattle.scp_types.specs.declared.event.Event.{Event}
use Rattle.scp_types.specs.declared.event.Refusal.{Refusal}
use Rattle.scp_spec.specs.Networks.{Step}
use Rattle.host_network.specs.declared.applied.Given.{Given}
use Rattle.host_network.specs.Decoding.{step_of}
use Rattle.host_journal.specs.Logs.{IsEntered, IsRefused, Log, marks_of, with_entry}
use Rattle.host_world.specs.Worlds.{AreByNumber, IsAnswered, IsPlaceOf, log_at, logs_set, logs_with, marks_at, marks_in_log, numbers_of}
use Rattle.host_world.proofs.Histories.{has-number}

numbers-length : (ls : List Log) → length (numbers_of ls) ≡ length ls
numbers-length [] = refl
numbers-length (l ∷ ls) = ap suc (numbers-length ls)

-- a journal in the place of its number
pub with-insert : (ls : List Log) (l : Log) (i : ℕ) → IsPlace (numbers_of ls) l.config.number i → logs_with l ls ≡ insert ls i l
with-insert [] l zero p = refl
with-insert [] l (suc i) p = absurd (let q = p.inside in omega (arith, q))
with-insert (k ∷ ks) l zero p = ap (λ b. if b then k ∷ logs_with l ks else l ∷ k ∷ ks) (not-below k.config.number l.config.number (p.above 0 (omega arith) (omega arith)))
  where
    not-below : (a b : ℕ) → b < a → nat_lt a b ≡ false
    not-below a b h = grind (arith, nat_tests, h)
with-insert (k ∷ ks) l (suc i) p =
    ap (λ b. if b then k ∷ logs_with l ks else l ∷ k ∷ ks) (is-below k.config.number l.config.number (p.below 0 (omega arith)))
    ∙ ap (λ xs. k ∷ xs) (with-insert ks l i (record {
      inside = let q = p.inside in omega (arith, q);
      below = λ j h. p.below (suc j) (omega (arith, h));
      above = λ j h m. p.above (suc j) (omega (arith, h)) (omega (arith, m));
    }))
  where
    is-below : (a b : ℕ) → a < b → nat_lt a b ≡ true
    is-below a b h = grind (arith, nat_tests, h)

-- there is something there
pub within : (ls : List Log) (g k : ℕ) → index_in (numbers_of ls) g ≡ Some k → k < length ls
within [] g k h = absurd (cc)
within (l ∷ ls) g k h = go (l.config.number == g) (index_in (numbers_of ls) g) (λ j e. within ls g j e) refl h
  where
    go : (b : Bool) (o : Option ℕ) → ((j : ℕ) → index_in (numbers_of ls) g ≡ Some j → j < length ls) → index_in (numbers_of ls) g ≡ o → (if b then Some 0 else option_map suc o) ≡ Some k → k < suc (length ls)
    go true o ih e q = let z : 0 ≡ k = cc in omega (arith, z)
    go false None ih e q = absurd (cc)
    go false (Some j) ih e q = let z : suc j ≡ k = cc in let l = ih j e in omega (arith, z, l)

-- what a binary search answers
pub place-is : (ls : List Log) (g : ℕ) (r : Result ℕ ℕ) → IsAscending (numbers_of ls) → IsBinarySearchResult (λ y. nat_cmp y g) (numbers_of ls) r → IsPlaceOf ls g r
place-is ls g (Ok k) up h = let e = place-found (numbers_of ls) g k up h in (e, within ls g k e)
place-is ls g (Err i) up h =
    let p = is_place (numbers_of ls) g i up h in (
      place-nowhere (numbers_of ls) g i up h,
      subst (λ n. i ≤ n) (numbers-length ls) p.inside,
      ascending_insert (numbers_of ls) g i up p,
      λ l e. with-insert ls l i (subst (λ n. IsPlace (numbers_of ls) n i) (sym e) p),
    )

-- the journal at the place of a number
pub found : (ls : List Log) (g k : ℕ) → index_in (numbers_of ls) g ≡ Some k → log_at ls g ≡ slice_get ls k
found [] g k h = absurd (cc)
found (l ∷ ls) g k h = go (l.config.number == g) (index_in (numbers_of ls) g) (λ j e. found ls g j e) refl h
  where
    go : (b : Bool) (o : Option ℕ) → ((j : ℕ) → index_in (numbers_of ls) g ≡ Some j → log_at ls g ≡ slice_get ls j) → index_in (numbers_of ls) g ≡ o → (if b then Some 0 else option_map suc o) ≡ Some k
        → (if b then Some l else log_at ls g) ≡ slice_get (l ∷ ls) k
    go true o ih e q = let z : 0 ≡ k = cc in ap (slice_get (l ∷ ls)) z
    go false None ih e q = absurd (cc)
    go false (Some j) ih e q = let z : suc j ≡ k = cc in ih j e ∙ ap (slice_get (l ∷ ls)) z

pub missing : (ls : List Log) (g : ℕ) → index_in (numbers_of ls) g ≡ None → log_at ls g ≡ None
missing [] g h = refl
missing (l ∷ ls) g h = go (l.config.number == g) (index_in (numbers_of ls) g) (λ e. missing ls g e) refl h
  where
    go : (b : Bool) (o : Option ℕ) → (index_in (numbers_of ls) g ≡ None → log_at ls g ≡ None) → index_in (numbers_of ls) g ≡ o → (if b then Some 0 else option_map suc o) ≡ None → (if b then Some l else log_at ls g) ≡ None
    go true o ih e q = absurd (cc)
    go false None ih e q = ih e
    go false (Some j) ih e q = absurd (cc)

-- setting the journal of a number is setting the one at its place
pub set-is : (ls : List Log) (m : Log) (k : ℕ) → index_in (numbers_of ls) m.config.number ≡ Some k → logs_set m ls ≡ set ls k m
set-is [] m k h = absurd (cc)
set-is (l ∷ ls) m k h = go (l.config.number == m.config.number) (index_in (numbers_of ls) m.config.number) (λ j e. set-is ls m j e) refl h
  where
    go : (b : Bool) (o : Option ℕ) → ((j : ℕ) → index_in (numbers_of ls) m.config.number ≡ Some j → logs_set m ls ≡ set ls j m) → index_in (numbers_of ls) m.config.number ≡ o → (if b then Some 0 else option_map suc o) ≡ Some k
        → (if b then m ∷ ls else l ∷ logs_set m ls) ≡ set (l ∷ ls) k m
    go true o ih e q = let z : 0 ≡ k = cc in ap (λ n. set (l ∷ ls) n m) z
    go false None ih e q = absurd (cc)
    go false (Some j) ih e q = let z : suc j ≡ k = cc in ap (λ xs. l ∷ xs) (ih j e) ∙ ap (λ n. set (l ∷ ls) n m) z

-- what stands at the place of a number
pub stands : (ls : List Log) (g k : ℕ) (x : Log) → index_in (numbers_of ls) g ≡ Some k → k < length ls → x ≡ get_or ls k x → log_at ls g ≡ Some x
stands ls g k x e l is = found ls g k e ∙ slice_get_read ls (length ls) k x refl l is

pub there : (ls : List Log) (g k : ℕ) → index_in (numbers_of ls) g ≡ Some k → k < length ls → IsTrue (is_some (log_at ls g))
there ls g k e l = subst (λ o. IsTrue (is_some o)) (sym (found ls g k e)) (go ls k l)
  where
    go : (xs : List Log) (k : ℕ) → k < length xs → IsTrue (is_some (slice_get xs k))
    go [] k l = absurd (omega (arith, l))
    go (x ∷ xs) zero l = refl
    go (x ∷ xs) (suc k) l = go xs k (omega (arith, l))

-- a journal that keeps its number is set at its place
pub set-kept : (ns : List ℕ) (ls : List Log) (k : ℕ) (x y : Log) → (ns ≡ numbers_of ls) × AreByNumber ls → k < length ls → x ≡ get_or ls k x → y.config.number ≡ x.config.number → (ns ≡ numbers_of (set ls k y)) × AreByNumber (set ls k y)
set-kept ns ls k x y h l is same =
    let numbers : numbers_of (set ls k y) ≡ numbers_of ls = map-set_same (λ (z : Log). z.config.number) ls k y x (same ∙ ap (λ (z : Log). z.config.number) is) in
    (h.0 ∙ sym numbers, (subst IsAscending (sym numbers) h.1.0, subst (λ n. n ≤ 4096) (sym (length-set ls k y)) h.1.1))

-- what an event of a network is answered
pub number-kept : (x y : Log) (e : Step) (r : Result Given Refusal) → IfOk r (λ v. y ≡ with_entry x e v.outs.items) → OnErr r (y ≡ x) → y.config.number ≡ x.config.number
number-kept x y e (Ok v) is same = ap (λ (z : Log). z.config.number) is
number-kept x y e (Err r) is same = ap (λ (z : Log). z.config.number) same

pub answered : (ls : List Log) (g k : ℕ) (x y : Log) (event : Event) (r : Result Given Refusal) → index_in (numbers_of ls) g ≡ Some k → k < length ls → x ≡ get_or ls k x
    → IfOk r (λ v. IsEntered x (step_of event) v.outs.items) → IfOk r (λ v. y ≡ with_entry x (step_of event) v.outs.items) → IfErr r (IsRefused x (step_of event)) → OnErr r (y ≡ x) → IsAnswered ls g event r (set ls k y)
answered ls g k x y event (Ok v) e l is ok entered err same =
    let at = stands ls g k x e l is in
    let named : (with_entry x (step_of event) v.outs.items).config.number ≡ g = has-number ls g x at in
    rw at (ok, ap (λ z. set ls k z) entered ∙ sym (set-is ls (with_entry x (step_of event) v.outs.items) k (ap (index_in (numbers_of ls)) named ∙ e)))
answered ls g k x y event (Err r) e l is ok entered err same =
    rw (stands ls g k x e l is) (err, ap (λ z. set ls k z) (same ∙ is) ∙ set-get_or ls k x)

-- a journal more
pub joins : (ns ms : List ℕ) (ls : List Log) (i : ℕ) (l : Log) → ns ≡ numbers_of ls → ms ≡ insert ns i l.config.number → IsAscending (insert (numbers_of ls) i l.config.number) → length ls < 4096 → i ≤ length ls → (ms ≡ numbers_of (insert ls i l)) × AreByNumber (insert ls i l)
joins ns ms ls i l is made up few inside =
    let same : numbers_of (insert ls i l) ≡ insert (numbers_of ls) i l.config.number =
    map-append (λ (z : Log). z.config.number) (take i ls) (l ∷ drop i ls) ∙ ap₂ {C = List ℕ} (λ (a b : List ℕ). a ++ l.config.number ∷ b) (sym (take-map (λ (z : Log). z.config.number) i ls)) (sym (drop-map (λ (z : Log). z.config.number) i ls)) in
    (made ∙ ap (λ (xs : List ℕ). insert xs i l.config.number) is ∙ sym same, (subst IsAscending (sym same) up, omega (arith, few, length-insert ls i l inside)))

-- a journal that stays as it was, put back in its place
pub stays : (r : Result Given Refusal) (ls : List Log) (k : ℕ) (x y : Log) → x ≡ get_or ls k x → OnErr r (y ≡ x) → OnErr r (set ls k y ≡ ls)
stays (Ok v) ls k x y is same = tt
stays (Err e) ls k x y is same = ap (set ls k) (same ∙ is) ∙ set-get_or ls k x

-- one event: what is answered, and that the numbers stay, for the list of which one journal was changed at its place
pub record Changed (ns : List ℕ) (ls : List Log) (g k : ℕ) (y : Log) (event : Event) (r : Result Given Refusal) : Type 0 where
  pub kept : (ns ≡ numbers_of (set ls k y)) × AreByNumber (set ls k y)
  pub answer : IsAnswered ls g event r (set ls k y)

pub changed : (ns : List ℕ) (ls : List Log) (g k : ℕ) (x y : Log) (event : Event) (r : Result Given Refusal) → (ns ≡ numbers_of ls) × AreByNumber ls → (index_in (numbers_of ls) g ≡ Some k) × (k < length ls) → x ≡ get_or ls k x
    → IfOk r (λ v. IsEntered x (step_of event) v.outs.items) → IfOk r (λ v. y ≡ with_entry x (step_of event) v.outs.items) → IfErr r (IsRefused x (step_of event)) → OnErr r (y ≡ x) → Changed ns ls g k y event r
changed ns ls g k x y event r h e is ok entered err same = record {
  kept = set-kept ns ls k x y h e.1 is (number-kept x y (step_of event) r entered same);
  answer = answered ls g k x y event r e.0 e.1 is ok entered err same;
}

-- the marks of an event of a journal are those of the network of its number
pub marked : (r : Result Given Refusal) (ls : List Log) (g k : ℕ) (x : Log) (event : Event) → index_in (numbers_of ls) g ≡ Some k → k < length ls → x ≡ get_or ls k x
    → IfOk r (λ v. v.marks.items ≡ marks_of x.config x.entries (step_of event)) → IfOk r (λ v. v.marks.items ≡ marks_at ls g event)
marked (Ok v) ls g k x event e l is marks = marks ∙ sym (ap (λ o. marks_in_log o (step_of event)) (stands ls g k x e l is))
marked (Err r) ls g k x event e l is marks = tt
