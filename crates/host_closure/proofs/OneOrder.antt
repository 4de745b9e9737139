-- A closure has one list: turns leave no choice.
use Rattle.std.proofs.Common.{◌≡◌, ℕ, suc, ◌≤◌, true, List, [], ◌∷◌, ◌++◌, length, map, slice_get, Some, None, refl, sym, ◌∙◌, ap, ap₂, subst, inl, inr, arith, append_assoc, length-append}
use Rattle.std.specs.List.{Contains}
use Rattle.std.proofs.lemmas.Bool.{cases_lt}
use Rattle.std.proofs.lemmas.Cmp.{nat_eq_equiv}
use Rattle.std.proofs.lemmas.List.{append-nil}
use Rattle.std.proofs.lemmas.Map.Made.{length-le_from_is_member}
use Rattle.std.proofs.lemmas.Option.{slice_get_within, slice_get-get_or, get_or_from_slice_get}
use Rattle.scp_spec.specs.Sets.{among}
use Rattle.scp_spec.specs.Networks.{HostedNode}
use Rattle.scp_spec.specs.Hosts.{Entry}
use Rattle.scp_spec.proofs.Verdicts.OneList.{one_list}
use Rattle.host_closure.specs.Announcing.{AreMembersAt, ClosureListsAreOne, IsClosureList, IsTurn, MemberList, member_names}
use Rattle.host_closure.specs.Announcing.AreMembersAt.{first, turn, again}
use Rattle.host_closure.proofs.NameLookups.{member_is}
use Rattle.host_closure.proofs.ClosureSteps.{among_at, place_among}
use Rattle.host_closure.proofs.Growing.{names_length, one_name}

contained : (xs : List ℕ) (u : ℕ) → among xs u ≡ true → Contains xs u
contained xs u h = let at = place_among xs u h in (at.0, slice_get_within xs at.0 u at.1, get_or_from_slice_get xs at.0 u u at.1)

is_among : (xs : List ℕ) (u : ℕ) → Contains xs u → among xs u ≡ true
is_among xs u c = among_at xs c.0 u (slice_get-get_or xs c.0 u c.1 ∙ ap Some c.2)

module _ (nodes : List HostedNode) (i v : ℕ) (run : List Entry) where
  -- ---- a turn makes one list
  one_turn : (w place : ℕ) (old new other : MemberList) → IsTurn nodes i run w place old new → IsTurn nodes i run w place old other → new ≡ other
  one_turn w place old new other a b =
      let joined : a.joined ≡ b.joined = one_list a.joined b.joined a.ascending b.ascending
      (λ u c. let h = is_among a.joined u c in contained b.joined u (b.all u (a.named u h) (a.missing u h)))
      (λ u c. let h = is_among b.joined u c in contained a.joined u (a.all u (b.named u h) (b.missing u h))) in
      a.is ∙ (ap (λ (us : List ℕ). old ++ map (λ u. (u, place)) us) joined ∙ sym b.is)

  same_turn : (w x p q : ℕ) (l k new other : MemberList) → p ≡ q → l ≡ k → slice_get (member_names l) p ≡ Some w → slice_get (member_names k) q ≡ Some x → IsTurn nodes i run w p l new → IsTurn nodes i run x q k other → new ≡ other
  same_turn w x p q l k new other here list a b s t =
      let same : w ≡ x = one_name (member_names k) q w x (sym (ap₂ (λ (m : MemberList) (n : ℕ). slice_get (member_names m) n) list here) ∙ a) b in
      one_turn x q k new other
      (subst (λ y. IsTurn nodes i run y q k new) same (subst (λ (m : MemberList). IsTurn nodes i run w q m new) list (subst (λ n. IsTurn nodes i run w n l new) here s)))
      t

  -- ---- how many turns there were, and rounds begun
  abbrev count : (p : ℕ) (l : MemberList) → AreMembersAt nodes i v run p l → ℕ
  count p l first = 0
  count p l (turn before a t) = suc (count _ _ before)
  count p l (again before a) = suc (count _ _ before)

  -- after as many there is one list
  as_many : (p q : ℕ) (l k : MemberList) (a : AreMembersAt nodes i v run p l) (b : AreMembersAt nodes i v run q k) → count p l a ≡ count q k b → (p ≡ q) × (l ≡ k)
  as_many p q l k first first e = (refl, refl)
  as_many p q l k first (turn d b t) e = absurd (omega (arith, e))
  as_many p q l k first (again d b) e = absurd (omega (arith, e))
  as_many p q l k (turn c a s) first e = absurd (omega (arith, e))
  as_many p q l k (again c a) first e = absurd (omega (arith, e))
  as_many p q l k (turn {place = m} {w = w} {old = y} c a s) (turn {place = n} {w = x} {old = z} d b t) e =
      let same = as_many m n y z c d (omega (arith, e)) in
      (ap (λ r. suc r) same.0, same_turn w x m n y z l k same.0 same.1 a b s t)
  as_many p q l k (turn {place = m} {w = w} {old = y} c a s) (again {place = n} {list = z} d b) e =
      let same = as_many m n y z c d (omega (arith, e)) in
      absurd (never (sym a ∙ (ap₂ (λ (r : MemberList) (h : ℕ). slice_get (member_names r) h) same.1 same.0 ∙ b)))
    where
      never : {o : ℕ} → Some o ≡ None → ⊥
      never h = cc
  as_many p q l k (again {place = m} {list = y} c a) (turn {place = n} {w = x} {old = z} d b t) e =
      let same = as_many m n y z c d (omega (arith, e)) in
      absurd (never (sym b ∙ (sym (ap₂ (λ (r : MemberList) (h : ℕ). slice_get (member_names r) h) same.1 same.0) ∙ a)))
    where
      never : {o : ℕ} → Some o ≡ None → ⊥
      never h = cc
  as_many p q l k (again {place = m} {list = y} c a) (again {place = n} {list = z} d b) e =
      let same = as_many m n y z c d (omega (arith, e)) in (refl, same.1)

  -- ---- an earlier list is the front of a later one
  record IsFront (n : ℕ) (l : MemberList) : Type 0 where
    place : ℕ
    front : MemberList
    more : MemberList
    made : AreMembersAt nodes i v run place front
    counted : count place front made ≡ n
    is : l ≡ front ++ more

  whole : (p : ℕ) (l : MemberList) (a : AreMembersAt nodes i v run p l) → IsFront (count p l a) l
  whole p l a = record { place = p; front = l; more = []; made = a; counted = refl; is = sym (append-nil l) }

  front_at : (n p : ℕ) (l : MemberList) (a : AreMembersAt nodes i v run p l) → n ≤ count p l a → IsFront n l
  front_at n p l first h = let none : 0 ≡ n = omega (arith, h) in subst (λ m. IsFront m l) none (whole p l first)
  front_at n p l (turn {place = m} {old = y} before a t) h = elim (cases_lt (count m y before) n) [
    | inl last ↦ subst (λ k. IsFront k l) (omega (arith, h, last)) (whole p l (turn before a t))
    | inr below ↦
        let f = front_at n m y before below in
        record {
          place = f.place;
          front = f.front;
          more = f.more ++ map (λ u. (u, m)) t.joined;
          made = f.made;
          counted = f.counted;
          is = t.is ∙ (ap (λ (k : MemberList). k ++ map (λ u. (u, m)) t.joined) f.is ∙ append_assoc f.front f.more (map (λ u. (u, m)) t.joined));
        }
  ]
  front_at n p l (again {place = m} {list = y} before a) h = elim (cases_lt (count m y before) n) [
    | inl last ↦ subst (λ k. IsFront k l) (omega (arith, h, last)) (whole p l (again before a))
    | inr below ↦ front_at n m y before below
  ]

  -- ---- of two lists of a closure
  -- the shorter is the front of the longer, and no shorter
  same_front : (one more : MemberList) → length (one ++ more) ≤ length one → one ++ more ≡ one
  same_front one [] h = append-nil one
  same_front one (m ∷ more) h = absurd (omega (arith, h, length-append one (m ∷ more)))

  as_long : (one other : MemberList) → IsClosureList nodes i v run one → IsClosureList nodes i v run other → length other ≤ length one
  as_long one other a b =
      let few : length (member_names other) ≤ length (member_names one) = length-le_from_is_member nat_eq_equiv (member_names other) (member_names one) b.once
      (λ u h. member_is (member_names one) u ∙ (a.exactly u ∙ (sym (b.exactly u) ∙ (sym (member_is (member_names other) u) ∙ h)))) in
      omega (arith, few, names_length one, names_length other)

  by_count : (one other : MemberList) → (a : IsClosureList nodes i v run one) → (b : IsClosureList nodes i v run other) → count 0 one a.in_turn ≤ count 0 other b.in_turn → one ≡ other
  by_count one other a b h =
      let f = front_at (count 0 one a.in_turn) 0 other b.in_turn h in
      let same = as_many f.place 0 f.front one f.made a.in_turn f.counted in
      let longer : other ≡ one ++ f.more = f.is ∙ ap (λ (m : MemberList). m ++ f.more) same.1 in
      sym (longer ∙ same_front one f.more (subst (λ (m : MemberList). length m ≤ length one) longer (as_long one other a b)))

pub closure_lists_are_one : ClosureListsAreOne
closure_lists_are_one nodes i v run one other a b = elim (cases_lt (count nodes i v run 0 one a.in_turn) (count nodes i v run 0 other b.in_turn)) [
  | inl less ↦ by_count nodes i v run one other a b (omega (arith, less))
  | inr most ↦ sym (by_count nodes i v run other one b a most)
]
