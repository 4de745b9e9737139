-- What each node gave out, entry after entry.
use Rattle.scp_types.specs.declared.event.Out.{Out}
use Rattle.std.proofs.Common.{◌≡◌, ◌≢◌, ℕ, zero, suc, ◌+◌, ◌<◌, ◌≤◌, Bool, true, false, ◌&&◌, ◌==◌, List, [], ◌∷◌, ◌++◌, length, get_or, take, map, slice_get, slice_set, flat_map, Option, Some, None, Ok, Err, if◌then◌else◌, option_map, refl, sym, ◌∙◌, ap, subst, inl, inr, arith}
use Rattle.std.proofs.lemmas.Bool.{cases_lt, eq-eqb, ne_eqb}
use Rattle.std.proofs.lemmas.List.{append-nil, append_assoc}
use Rattle.std.proofs.lemmas.Option.{slice_get_within, get_or_from_slice_get, slice_get-get_or}
use Rattle.std.specs.List.Sorted.{IsBinarySearchResult}
use Rattle.std.specs.Ordering.{nat_cmp}
use Rattle.std.proofs.lemmas.List.Sorted.{searched}
use Rattle.scp_spec.specs.Sets.{IsAscending}
use Rattle.scp_spec.specs.Networks.{Step}
use Rattle.scp_spec.specs.Networks.Reading.{Read, Fault}
use Rattle.scp_spec.specs.Networks.Step.{Opens, Closes, Proposes, Delivers, Hears, NominationTimerFires, BallotTimerFires, Reslices}
use Rattle.scp_spec.specs.Hosts.{Entry}
use Rattle.scp_spec.specs.Isolation.{is_of, outs_of}
use Rattle.host_compare.specs.Steps.{at_slot, event_at, node_in, node_of_step}
use Rattle.host_compare.specs.OutLists.{IsNoted, IsNotedAt, outs_of_each}
use Rattle.host_compare.specs.OutLists.IsNoted.{nobody, somebody}
use Rattle.host_closure.proofs.Places.{front_at, there_is}

-- the node is the one that is there
abbrev is_node : Option ℕ → ℕ → Bool
is_node None u = false
is_node (Some w) u = w == u

when_at : (b : Bool) (w u : ℕ) → (b && (w == u)) ≡ is_node (at_slot b w) u
when_at true w u = refl
when_at false w u = refl

pub is_of_is : (i u : ℕ) (s : Step) → is_of i u s ≡ is_node (node_of_step i s) u
is_of_is i u (Opens j) = refl
is_of_is i u (Closes j) = refl
is_of_is i u (Proposes j w x) = when_at (j == i) w u
is_of_is i u (Delivers w size (Read e)) = when_at (e.slot == i) w u
is_of_is i u (Delivers w size (Fault n)) = refl
is_of_is i u (Hears j w from kind k) = when_at (j == i) w u
is_of_is i u (NominationTimerFires j w r) = when_at (j == i) w u
is_of_is i u (BallotTimerFires j w n) = when_at (j == i) w u
is_of_is i u (Reslices j w q) = when_at (j == i) w u

flat_more : {X Y : Type 0} (f : X → List Y) (xs : List X) (x : X) → flat_map f (xs ++ x ∷ []) ≡ flat_map f xs ++ f x
flat_more f [] x = append-nil (f x)
flat_more f (z ∷ zs) x = ap (λ ys. f z ++ ys) (flat_more f zs x) ∙ sym (append_assoc (f z) (flat_map f zs) (f x))

module _ (i : ℕ) (run : List Entry) (n : ℕ) (x : Entry) (there : slice_get run n ≡ Some x) where
  outs_more : (u : ℕ) → outs_of i u (take (n + 1) run) ≡ outs_of i u (take n run) ++ (if is_of i u x.event then x.outs else [])
  unfolding outs_of
  outs_more u = ap (λ (es : List Entry). flat_map (λ (y : Entry). if is_of i u y.event then y.outs else []) es) (front_at run n x there) ∙ flat_more (λ (y : Entry). if is_of i u y.event then y.outs else []) (take n run) x

  outs_same : (u : ℕ) → is_of i u x.event ≡ false → outs_of i u (take (n + 1) run) ≡ outs_of i u (take n run)
  outs_same u h = outs_more u ∙ (ap (λ b. outs_of i u (take n run) ++ (if b then x.outs else [])) h ∙ append-nil (outs_of i u (take n run)))

  outs_added : (u : ℕ) → is_of i u x.event ≡ true → outs_of i u (take (n + 1) run) ≡ outs_of i u (take n run) ++ x.outs
  outs_added u h = outs_more u ∙ ap (λ b. outs_of i u (take n run) ++ (if b then x.outs else [])) h

  -- an event of none of the names changes nothing
  pub each_same : (list : List ℕ) → ((k u : ℕ) → slice_get list k ≡ Some u → is_of i u x.event ≡ false) → outs_of_each i (take (n + 1) run) list ≡ outs_of_each i (take n run) list
  each_same [] f = refl
  each_same (u ∷ us) f = λ j. (u, outs_same u (f 0 u refl) j) ∷ each_same us (λ k w e. f (suc k) w e) j

  -- an event of one of them changes what that one has
  pub each_added : (list : List ℕ) (k w : ℕ) → slice_get list k ≡ Some w → is_of i w x.event ≡ true → ((j u : ℕ) → slice_get list j ≡ Some u → j ≢ k → is_of i u x.event ≡ false)
      → outs_of_each i (take (n + 1) run) list ≡ slice_set (outs_of_each i (take n run) list) k (w, outs_of i w (take n run) ++ x.outs)
  each_added [] k w e t f = cc
  each_added (u ∷ us) zero w e t f = let same : u ≡ w = cc in subst (λ v. outs_of_each i (take (n + 1) run) (v ∷ us) ≡ (w, outs_of i w (take n run) ++ x.outs) ∷ outs_of_each i (take n run) us) (sym same)
      (λ j. (w, outs_added w t j) ∷ each_same us (λ k v q. f (suc k) v q (λ z. absurd (omega (arith, z)))) j)
  each_added (u ∷ us) (suc k) w e t f = λ j. (u, outs_same u (f 0 u refl (λ z. absurd (omega (arith, z)))) j) ∷ each_added us k w e t (λ m v q z. f (suc m) v q (λ y. z (omega (arith, y)))) j

-- ---- an entry noted in a list
each_at : (i : ℕ) (run : List Entry) (list : List ℕ) (k w : ℕ) → slice_get list k ≡ Some w → slice_get (outs_of_each i run list) k ≡ Some (w, outs_of i w run)
each_at i run [] k w e = cc
each_at i run (u ∷ us) zero w e = let same : u ≡ w = cc in ap (λ v. Some (v, outs_of i v run)) same
each_at i run (u ∷ us) (suc k) w e = each_at i run us k w e

pub noted_is : (i : ℕ) (run : List Entry) (n : ℕ) (x : Entry) (list : List ℕ) (old new : List (ℕ × List Out)) → slice_get run n ≡ Some x → old ≡ outs_of_each i (take n run) list → IsNoted i x list old new
    → new ≡ outs_of_each i (take (n + 1) run) list
noted_is i run n x list old new e was (nobody f h) = h ∙ (was ∙ sym (each_same i run n x e list f))
noted_is i run n x list old new e was (somebody k w at t f h) =
    h (w, outs_of i w (take n run)) (ap (λ (ys : List (ℕ × List Out)). slice_get ys k) was ∙ each_at i (take n run) list k w at)
    ∙ (ap (λ (ys : List (ℕ × List Out)). slice_set ys k (w, outs_of i w (take n run) ++ x.outs)) was ∙ sym (each_added i run n x e list k w at t f))

pub each_at_first : (i : ℕ) (list : List ℕ) → map (λ u. (u, [])) list ≡ outs_of_each i [] list
unfolding outs_of
each_at_first i list = refl

pub each_length : (i : ℕ) (run : List Entry) (list : List ℕ) → length (outs_of_each i run list) ≡ length list
each_length i run [] = refl
each_length i run (u ∷ us) = ap (λ n. suc n) (each_length i run us)

-- ---- where an entry is noted

is_here : (i w u : ℕ) (x : Entry) → node_of_step i x.event ≡ Some w → is_of i u x.event ≡ (w == u)
is_here i w u x e = is_of_is i u x.event ∙ ap (λ (o : Option ℕ). is_node o u) e

rises : (xs : List ℕ) → IsAscending xs → (i j : ℕ) → i ≤ j → j < length xs → get_or xs i 0 ≤ get_or xs j 0
rises xs up i j h k = elim (cases_lt i j) [
  | inl l ↦ omega (arith, up i j 0 l k)
  | inr m ↦ let e : i ≡ j = omega arith in rw e (omega arith)
]

pub noted_elsewhere : (i : ℕ) (x : Entry) (list : List ℕ) (old : List (ℕ × List Out)) (w place : ℕ) → node_of_step i x.event ≡ Some w → IsAscending list → IsBinarySearchResult (λ y. nat_cmp y w) list (Err place) → IsNoted i x list old old
noted_elsewhere i x list old w place e up missed =
    let s = searched list w (Err place) missed (rises list up) in
    nobody (λ k u h. is_here i w u x e ∙ ne_eqb w u (λ q.
    let at : get_or list k 0 ≡ u = get_or_from_slice_get list k u 0 h in
    let l = slice_get_within list k u h in
    elim (cases_lt k place) [ inl a ↦ let b = s.1 k a in absurd (omega (arith, at, b, q)) | inr a ↦ let b = s.2 k a l in absurd (omega (arith, at, b, q)) ])) refl

pub noted_there : (i : ℕ) (x : Entry) (list : List ℕ) (old new : List (ℕ × List Out)) (w place : ℕ) → node_of_step i x.event ≡ Some w → IsAscending list → IsBinarySearchResult (λ y. nat_cmp y w) list (Ok place)
    → ((p : ℕ × List Out) → slice_get old place ≡ Some p → new ≡ slice_set old place (p.0, p.1 ++ x.outs)) → IsNoted i x list old new
noted_there i x list old new w place e up found h =
    let s = searched list w (Ok place) found (rises list up) in
    let there : slice_get list place ≡ Some w = slice_get-get_or list place 0 s.0 ∙ ap (λ y. Some y) s.1 in
    somebody place w there (is_here i w w x e ∙ eq-eqb w w refl)
    (λ j u q apart. is_here i w u x e ∙ ne_eqb w u (λ same.
    let a : get_or list j 0 ≡ u = get_or_from_slice_get list j u 0 q in
    let l = slice_get_within list j u q in
    elim (cases_lt j place) [
      | inl b ↦ let r = up j place 0 b s.0 in absurd (let m = s.1 in omega (arith, r, a, m, same))
      | inr b ↦ elim (cases_lt place j) [
        | inl d ↦ let r = up place j 0 d l in absurd (let m = s.1 in omega (arith, r, a, m, same))
        | inr d ↦ absurd (apart (omega arith))
      ]
    ])) h

-- ---- by number
pub noted_by : (i : ℕ) (run : List Entry) (n : ℕ) (list : List ℕ) (old new : List (ℕ × List Out)) → n < length run → old ≡ outs_of_each i (take n run) list → IsNotedAt i run n list old new → new ≡ outs_of_each i (take (n + 1) run) list
noted_by i run n list old new l was h = let p = there_is run n l in noted_is i run n p.0 list old new p.1 was (h p.0 p.1)

pub node_is : (i : ℕ) (run : List Entry) (n : ℕ) (x : Entry) (o : Option ℕ) → slice_get run n ≡ Some x → o ≡ node_in i (event_at run n) → node_of_step i x.event ≡ o
node_is i run n x o e h = ap (λ (y : Option Entry). node_in i (option_map (λ (z : Entry). z.event) y)) (sym e) ∙ sym h
