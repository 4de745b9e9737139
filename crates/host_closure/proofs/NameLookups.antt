-- Names looked up in a list of pairs, by the derived equality of names or by their derived order.
use Rattle.std.proofs.Common.{◌≡◌, ℕ, Bool, true, false, cond, ◌||◌, ◌==◌, List, [], ◌∷◌, ◌++◌, ◌<◌, Option, Some, None, is_some, position, slice_get, MatchOption, length, get_or, refl, sym, ◌∙◌, ap, subst, if◌then◌else◌, arith, IsFalse}
use Rattle.std.specs.List.{list_any}
use Rattle.std.specs.BTreeMap.{is_at}
use Rattle.std.specs.Map.{lookup, lookup_key, keys_of}
use Rattle.std.specs.Ordering.{is_eq, nat_cmp}
use Rattle.std.proofs.lemmas.Bool.{eqb-true, true≢false}
use Rattle.std.proofs.lemmas.Option.{slice_get-get_or}
use Rattle.std.proofs.lemmas.List.{length-map}
use Rattle.std.proofs.lemmas.List.Folds.{list_any-append}
use Rattle.indexmap.specs.IndexMap.{insert_entry}
use Rattle.indexmap.proofs.MapLemmas.{Found-position, Missing-position}
use Rattle.std.proofs.Math.Path.{fun_ext}
use Rattle.std.proofs.lemmas.Bool.Decides.{nat_tests}
use Rattle.scp_types.specs.contracts.node_id.NodeIdOrd.TheImpl.{ghosts as ord}
use Rattle.scp_types.specs.contracts.node_id.NodeIdPartialEq.TheImpl.{ghosts as equal}
use Rattle.scp_types.proofs.NameOrder.{name_cmp_is, name_eq_is}
use Rattle.scp_spec.specs.Sets.{among}
use Rattle.host_closure.specs.Announcing.{member_names}
use Rattle.host_closure.specs.Turns.{PartyIndex, IsIndexedTo, found_by, with_member}

-- two lists as one
pub among_append : (xs ys : List ℕ) (u : ℕ) → among (xs ++ ys) u ≡ (among xs u || among ys u)
among_append xs ys u = list_any-append (λ x. x == u) xs ys

flips : (x y : ℕ) → (x == y) ≡ (y == x)
flips x y = grind (arith, nat_tests)

-- a list has a name, as two definitions write it
pub member_is : (xs : List ℕ) (q : ℕ) → list_any (λ x. q == x) xs ≡ among xs q
member_is xs q = ap (λ (p : ℕ → Bool). list_any p xs) (fun_ext (λ x. flips q x))

-- the test of a name, as code makes it and as definitions write it
pub test_is : (k : ℕ) → equal.eq k ≡ (λ y. y == k)
test_is k = fun_ext (λ y. name_eq_is k y ∙ flips k y)

found_plain : (k : ℕ) (es : List (ℕ × ℕ)) → lookup (λ y. y == k) es ≡ found_by es k
found_plain k [] = refl
found_plain k (e ∷ es) = ap (λ (r : Option ℕ). cond (e.0 == k) (Some e.1) r) (found_plain k es)

found_is : (k : ℕ) (es : List (ℕ × ℕ)) → lookup (equal.eq k) es ≡ found_by es k
found_is k es = ap (λ (t : ℕ → Bool). lookup t es) (test_is k) ∙ found_plain k es

order_is : (k : ℕ) → is_at (ord.cmp k) ≡ (λ y. y == k)
order_is k = fun_ext (λ y. ap is_eq (name_cmp_is k y) ∙ same y)
  where
    same : (y : ℕ) → is_eq (nat_cmp k y) ≡ (y == k)
    same y = grind (arith, nat_tests)

pub found_in_order : (k : ℕ) (es : List (ℕ × ℕ)) → lookup (is_at (ord.cmp k)) es ≡ found_by es k
found_in_order k es = ap (λ (t : ℕ → Bool). lookup t es) (order_is k) ∙ found_plain k es

has_plain : (k : ℕ) (es : List (ℕ × ℕ)) → is_some (found_by es k) ≡ among (member_names es) k
has_plain k [] = refl
has_plain k (e ∷ es) = go (e.0 == k) (has_plain k es)
  where
    go : (b : Bool) → is_some (found_by es k) ≡ among (member_names es) k → is_some (if b then Some e.1 else found_by es k) ≡ (b || among (member_names es) k)
    go true h = refl
    go false h = h

-- a name is found exactly where it is among the names
pub has_is : (k : ℕ) (es : List (ℕ × ℕ)) → is_some (lookup (equal.eq k) es) ≡ among (member_names es) k
has_is k es = ap is_some (found_is k es) ∙ has_plain k es

-- ---- places
key_is : (k : ℕ) (es : List (ℕ × ℕ)) (x : ℕ) → lookup_key (λ y. y == k) es ≡ Some x → x ≡ k
key_is k [] x h = cc
key_is k (e ∷ es) x h = go (e.0 == k) refl h (key_is k es x)
  where
    go : (b : Bool) → (e.0 == k) ≡ b → cond b (Some e.0) (lookup_key (λ y. y == k) es) ≡ Some x → (lookup_key (λ y. y == k) es ≡ Some x → x ≡ k) → x ≡ k
    go true q p f = let same : e.0 ≡ x = cc in sym same ∙ eqb-true e.0 k q
    go false q p f = f p

module _ (k : ℕ) (es : List (ℕ × ℕ)) where
  found_there : (i : ℕ) → position (λ y. y == k) (keys_of es) ≡ Some i → slice_get (member_names es) i ≡ Some k
  found_there i p =
      let f = Found-position (λ y. y == k) es i p in
      let within : i < length (member_names es) = omega (arith, f.within, length-map es (λ e. e.0)) in
      let there : slice_get (member_names es) i ≡ Some (get_or (member_names es) i 0) = slice_get-get_or (member_names es) i 0 within in
      there ∙ ap Some (key_is k es (get_or (member_names es) i 0) (f.key ∙ there))

  not_there : position (λ y. y == k) (keys_of es) ≡ None → among (member_names es) k ≡ false
  not_there p = sym (has_plain k es) ∙ ap is_some (sym (found_plain k es) ∙ (Missing-position (λ y. y == k) es p).value)

  pub place_is : (r : Option ℕ) → r ≡ position (equal.eq k) (keys_of es) → MatchOption r (IsFalse (among (member_names es) k)) (λ i. slice_get (member_names es) i ≡ Some k)
  place_is None e = not_there (ap (λ (t : ℕ → Bool). position t (keys_of es)) (sym (test_is k)) ∙ sym e)
  place_is (Some i) e = found_there i (ap (λ (t : ℕ → Bool). position t (keys_of es)) (sym (test_is k)) ∙ sym e)

-- ---- one more member
added_last : (k p : ℕ) (xs : List (ℕ × ℕ)) → among (member_names xs) k ≡ false → insert_entry equal.eq xs k p ≡ xs ++ (k, p) ∷ []
added_last k p [] n = refl
added_last k p (x ∷ xs) n = step (x.0 == k) n (ap (λ (t : ℕ → Bool). t x.0) (test_is k)) (added_last k p xs)
  where
    step : (b : Bool) → (b || among (member_names xs) k) ≡ false → equal.eq k x.0 ≡ b → (among (member_names xs) k ≡ false → insert_entry equal.eq xs k p ≡ xs ++ (k, p) ∷ []) → insert_entry equal.eq (x ∷ xs) k p ≡ x ∷ (xs ++ (k, p) ∷ [])
    step true o q f = absurd (true≢false o)
    step false o q f = rw q (ap (λ (ys : List (ℕ × ℕ)). x ∷ ys) (f o))

pub added_is : (es : List (ℕ × ℕ)) (k p : ℕ) → among (member_names es) k ≡ false → insert_entry equal.eq es k p ≡ with_member es k p
added_is es k p h = go (among (member_names es) k) h
  where
    go : (b : Bool) → b ≡ false → insert_entry equal.eq es k p ≡ (if b then es else es ++ (k, p) ∷ [])
    go true e = absurd (true≢false e)
    go false e = added_last k p es h

-- ---- a value put beside a name
pub put_is : (k w : ℕ) (es fs : List (ℕ × ℕ)) (x : ℕ) → lookup (is_at (ord.cmp k)) fs ≡ cond (is_at (ord.cmp w) k) (Some x) (lookup (is_at (ord.cmp k)) es) → found_by fs k ≡ (if w == k then Some x else found_by es k)
put_is k w es fs x h = sym (found_in_order k fs) ∙ (h ∙ both (ap (λ (t : ℕ → Bool). t k) (order_is w) ∙ flips k w) (found_in_order k es))
  where
    both : {a b : Bool} {o q : Option ℕ} → a ≡ b → o ≡ q → cond a (Some x) o ≡ (if b then Some x else q)
    both e f = λ j. cond (e j) (Some x) (f j)

pub there_is : (es : List (ℕ × ℕ)) (k p : ℕ) → among (member_names es) k ≡ true → es ≡ with_member es k p
there_is es k p h = go (among (member_names es) k) h
  where
    go : (b : Bool) → b ≡ true → es ≡ (if b then es else es ++ (k, p) ∷ [])
    go true e = refl
    go false e = absurd (true≢false (sym e))

-- ---- one more entry of the index
pub linked_none : (old new : PartyIndex) (sender before : Option ℕ) → sender ≡ None → before ≡ None → new.latest ≡ old.latest → new.earlier ≡ old.earlier ++ before ∷ [] → IsIndexedTo old new sender
linked_none old new None before s b l e = (l, subst (λ o. new.earlier ≡ old.earlier ++ o ∷ []) b e)
linked_none old new (Some w) before s b l e = cc

pub linked_some : (old new : PartyIndex) (w : ℕ) (sender before : Option ℕ) → sender ≡ Some w → before ≡ lookup (is_at (ord.cmp w)) old.latest
    → ((u : ℕ) → lookup (is_at (ord.cmp u)) new.latest ≡ cond (is_at (ord.cmp w) u) (Some (length old.earlier)) (lookup (is_at (ord.cmp u)) old.latest)) → new.earlier ≡ old.earlier ++ before ∷ [] → IsIndexedTo old new sender
linked_some old new w sender before s b l e =
    subst (λ o. IsIndexedTo old new o) (sym s) (
      λ u. put_is u w old.latest new.latest (length old.earlier) (l u),
      e ∙ ap (λ (o : Option ℕ). old.earlier ++ o ∷ []) (b ∙ found_in_order w old.latest),
    )
