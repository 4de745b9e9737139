-- Announcements that become ready when their receiver joins, and what stays of those that are.
use Rattle.std.proofs.Common.{◌≡◌, ◌⊎◌, ℕ, ◌<◌, ◌≤◌, Bool, true, false, ◌==◌, List, [], ◌∷◌, ◌++◌, length, get_or, slice_get, Option, Some, None, if◌then◌else◌, refl, sym, ◌∙◌, ap, subst, inl, inr, arith, IsTrue, IsFalse}
use Rattle.std.specs.List.{IsDistinct}
use Rattle.std.proofs.lemmas.Bool.{cases_lt, or_cases, or_left, eq-eqb, eqb-true, true≢false, false≢true}
use Rattle.std.proofs.lemmas.List.{length_push, map_push}
use Rattle.std.proofs.lemmas.Map.Keys.{apart_from_distinct}
use Rattle.std.proofs.lemmas.Option.{slice_get_within, get_or_from_slice_get}
use Rattle.scp_spec.specs.Sets.{among, AreWithin}
use Rattle.scp_spec.specs.Networks.{HostedNode}
use Rattle.scp_spec.specs.Hosts.{Entry}
use Rattle.host_closure.specs.Announcing.{AnnouncedSlices, announced_at, IsNamedBy, MemberList, member_names}
use Rattle.host_closure.specs.Announcing.IsNamedBy.{configured, learnt}
use Rattle.host_closure.specs.Turns.{PartyIndex, AreMore, AreWoken, IsDue, IsFor, IsGiven, IsIndex, IsJoined, AreCovered, IsReady, last_below, ready_at, receiver_at, lists_after_turn, with_member, with_ready}
use Rattle.host_closure.proofs.NameLookups.{among_append}
use Rattle.host_closure.proofs.ClosureSteps.{among_at}
use Rattle.host_closure.proofs.Growing.{get_appended, one_name}
use Rattle.host_closure.proofs.Readiness.{more_same, more_more, put_more, put_there, turned_bound, turned_others}
use Rattle.host_closure.proofs.Walking.{IsWalked, receiver_is, walk_begins, walk_goes_on, walk_ends}

-- ---- one announcement
-- a name has one place
one_place : (xs : List ℕ) (j k u : ℕ) → IsDistinct (λ x y. x == y) xs → slice_get xs j ≡ Some u → slice_get xs k ≡ Some u → j ≡ k
one_place xs j k u once e h = elim (cases_lt j k) [
  | inl less ↦ absurd (apart j k less e h)
  | inr more ↦ elim (cases_lt k j) [
    | inl less ↦ absurd (apart k j less h e)
    | inr rest ↦ omega arith
  ]
]
  where
    apart : (m n : ℕ) → m < n → slice_get xs m ≡ Some u → slice_get xs n ≡ Some u → ⊥
    apart m n l a b =
        let one : get_or xs m 0 ≡ u = get_or_from_slice_get xs m u 0 a in
        let two : get_or xs n 0 ≡ u = get_or_from_slice_get xs n u 0 b in
        true≢false (sym (eq-eqb (get_or xs m 0) (get_or xs n 0) (one ∙ sym two)) ∙ apart_from_distinct (λ x y. x == y) xs m n 0 once l (slice_get_within xs n u b))

pub for_more : (members : List ℕ) (old new : List (List ℕ)) (n : ℕ) (o : Option AnnouncedSlices) → AreMore old new → IsFor members old n o → IsFor members new n o
for_more members old new n o more is a j e at l = more.kept j n (is a j e at (omega (arith, l, more.counted)))

pub for_stranger : (members : List ℕ) (ready : List (List ℕ)) (n : ℕ) (announced : AnnouncedSlices) (o : Option AnnouncedSlices) → Some announced ≡ o → IsFalse (among members announced.sender) → IsFor members ready n o
for_stranger members ready n announced o e none a j h at l =
    let same : a ≡ announced = cc in
    absurd (true≢false (sym (among_at members j announced.sender (subst (λ (x : AnnouncedSlices). slice_get members j ≡ Some x.sender) same at)) ∙ none))

pub for_sender : (members : List ℕ) (ready new : List (List ℕ)) (n place : ℕ) (announced : AnnouncedSlices) (o : Option AnnouncedSlices) → IsDistinct (λ x y. x == y) members → Some announced ≡ o → slice_get members place ≡ Some announced.sender
    → new ≡ with_ready ready place n → IsFor members new n o
for_sender members ready new n place announced o once e there put a j h at l =
    let same : a ≡ announced = cc in
    let here : j ≡ place = one_place members j place announced.sender once (subst (λ (x : AnnouncedSlices). slice_get members j ≡ Some x.sender) same at) there in
    subst (λ (r : List (List ℕ)). IsTrue (among (ready_at r j) n)) (sym put) (subst (λ k. IsTrue (among (ready_at (with_ready ready place n) k) n)) (sym here)
    (put_there ready place n (omega (arith, l, here, ap length put, (put_more ready place n).counted))))

pub put_is_more : (ready new : List (List ℕ)) (place n : ℕ) → new ≡ with_ready ready place n → AreMore ready new
put_is_more ready new place n e = subst (λ (r : List (List ℕ)). AreMore ready r) (sym e) (put_more ready place n)

-- ---- all that were announced to a node
module _ (i : ℕ) (run : List Entry) (members : List ℕ) (u : ℕ) (initial : List (List ℕ)) where
  -- the announcements to the node from a number on are ready
  pub record IsWaking (next : Option ℕ) (ready : List (List ℕ)) : Type 0 where
    pub walked : IsWalked (receiver_at i) run u (λ n. IsFor members ready n (announced_at run n)) next
    pub more : AreMore initial ready

  pub waking_begins : (next : Option ℕ) → next ≡ last_below (receiver_at i) run u (length run) → IsWaking next initial
  waking_begins next e = record { walked = walk_begins (receiver_at i) run u (λ n. IsFor members initial n (announced_at run n)) next refl e; more = more_same initial }

  pub waking_goes_on : (d : PartyIndex) (number : ℕ) (next : Option ℕ) (old new : List (List ℕ)) → IsIndex (receiver_at i) run (length run) d → IsWaking next old → next ≡ Some number
      → AreMore old new → IsFor members new number (announced_at run number) → IsWaking (get_or d.earlier number None) new
  waking_goes_on d number next old new index way there more now = record {
    walked = walk_goes_on (receiver_at i) run u d index number next (λ n. IsFor members old n (announced_at run n)) way.walked there (λ n. IsFor members new n (announced_at run n))
        (λ n h. for_more members old new n (announced_at run n) more h) now;
    more = more_more initial old new way.more more;
  }

  pub waking_ends : (next : Option ℕ) (ready : List (List ℕ)) → next ≡ None → IsWaking next ready → AreWoken i run members ready u
  waking_ends next ready e way n a at s r =
      let Done : ℕ → Type 0 = λ m. IsFor members ready m (announced_at run m) in
      subst (λ o. IsFor members ready n o) at (walk_ends (receiver_at i) run u Done (subst (λ o. IsWalked (receiver_at i) run u Done o) e way.walked) n
      (ap (λ (o : Option AnnouncedSlices). receiver_at i o) at ∙ (receiver_is i a s ∙ ap Some r)))

-- ---- one more member
record IsLonger (old new : List ℕ) (x : ℕ) : Type 0 where
  longer : length old ≤ length new
  front : AreWithin (among old) (among new)
  before : (j w : ℕ) → j < length old → slice_get new j ≡ Some w → slice_get old j ≡ Some w
  either : (r : ℕ) → IsTrue (among new r) → IsTrue (among old r) ⊎ (IsFalse (among old x) × (x ≡ r))

longer_same : (xs : List ℕ) (x : ℕ) → IsLonger xs xs x
longer_same xs x = record { longer = omega arith; front = λ u h. h; before = λ j w l e. e; either = λ r h. inl h }

longer_push : (xs : List ℕ) (x : ℕ) → IsFalse (among xs x) → IsLonger xs (xs ++ x ∷ []) x
longer_push xs x none = record {
  longer = omega (arith, length_push xs x);
  front = λ u h. among_append xs (x ∷ []) u ∙ or_left (among xs u) (among (x ∷ []) u) h;
  before = λ j w l e. sym (get_appended xs (x ∷ []) j l) ∙ e;
  either = λ r h. elim (or_cases (among xs r) (among (x ∷ []) r) (sym (among_append xs (x ∷ []) r) ∙ h)) [
    | inl k ↦ inl k
    | inr k ↦ elim (or_cases (x == r) false k) [ inl e ↦ inr (none, eqb-true x r e) | inr e ↦ absurd (false≢true e) ]
  ];
}

longer_member : (old : MemberList) (x place : ℕ) → IsLonger (member_names old) (member_names (with_member old x place)) x
longer_member old x place = go (among (member_names old) x) refl
  where
    go : (b : Bool) → among (member_names old) x ≡ b → IsLonger (member_names old) (member_names (if b then old else old ++ (x, place) ∷ [])) x
    go true e = longer_same (member_names old) x
    go false e = subst (λ (xs : List ℕ). IsLonger (member_names old) xs x) (sym (map_push (λ m. m.0) old (x, place))) (longer_push (member_names old) x e)

-- ---- what is kept
module _ (nodes : List HostedNode) (i : ℕ) (run : List Entry) where
  pub ready_at_first : (v : ℕ) → IsReady nodes i run (v ∷ []) []
  ready_at_first v = record { within = omega arith; covered = λ j w u l. absurd (omega arith) }

  -- a turn begins with what the member gives
  pub kept_begins : (members : List ℕ) (ready : List (List ℕ)) (place w : ℕ) (given : List ℕ) → IsReady nodes i run members ready → slice_get members place ≡ Some w → place ≤ length ready
      → IsGiven nodes i run members w given → AreCovered nodes i run members (lists_after_turn ready place) place given
  kept_begins members ready place w given is there next gives = record {
    within = turned_bound ready place (length members) is.within next (slice_get_within members place w there);
    covered = λ j x u l at named. elim (turned_others ready place j next l) [
      | inl here ↦
          let same : w ≡ x = one_name members place w x there (subst (λ k. slice_get members k ≡ Some x) here at) in
          elim (gives.complete u (subst (λ y. IsNamedBy nodes i run (among members) y u) (sym same) named)) [ inl m ↦ inl m | inr g ↦ inr (inr (here, g)) ]
      | inr other ↦ elim (is.covered j x u other.0 at named) [
        | inl m ↦ inl m
        | inr r ↦ elim r [
          | inl due ↦ inr (inl (subst (λ (ns : List ℕ). IsDue i run (among members) ns x u) (sym other.1) due))
          | inr none ↦ absurd (false≢true none.1)
        ]
      ]
    ];
  }

  -- and goes on with each name that joins
  module _ (old new : MemberList) (before after : List (List ℕ)) (place : ℕ) (given : List ℕ) (x namer : ℕ) (kept : AreCovered nodes i run (member_names old) before place given) (joined : IsJoined i run old new before after x namer) where
    longer : IsLonger (member_names old) (member_names new) x
    longer = subst (λ (list : MemberList). IsLonger (member_names old) (member_names list) x) (sym joined.members) (longer_member old x namer)

    older : (j w u : ℕ) → j < length after → slice_get (member_names new) j ≡ Some w → IsNamedBy nodes i run (among (member_names new)) w u
        → IsNamedBy nodes i run (among (member_names old)) w u ⊎ IsDue i run (among (member_names new)) (ready_at after j) w u
    unfolding longer
    older j w u l at (configured q e g) = inl (configured q e g)
    older j w u l at (learnt n a e s t r g) = elim (longer.either a.receiver r) [
      | inl was ↦ inl (learnt n a e s t was g)
      | inr now ↦ inr (record {
        number = n;
        announcement = a;
        there = joined.woken now.0 n a e s (sym now.1) a j refl (at ∙ ap Some (sym t)) l;
        at = e;
        slot = s;
        sender = t;
        receiver = r;
        named = g;
      })
    ]

    pub kept_goes_on : AreCovered nodes i run (member_names new) after place given
    unfolding longer
    kept_goes_on = record {
      within = omega (arith, kept.within, joined.more.counted, longer.longer);
      covered = λ j w u l at named. elim (older j w u l at named) [
        | inl was ↦ elim (kept.covered j w u (omega (arith, l, joined.more.counted)) (longer.before j w (omega (arith, l, joined.more.counted, kept.within)) at) was) [
          | inl m ↦ inl (longer.front u m)
          | inr r ↦ elim r [
            | inl due ↦ inr (inl (record {
              number = due.number;
              announcement = due.announcement;
              there = joined.more.kept j due.number due.there;
              at = due.at;
              slot = due.slot;
              sender = due.sender;
              receiver = longer.front due.announcement.receiver due.receiver;
              named = due.named;
            }))
            | inr g ↦ inr (inr g)
          ]
        ]
        | inr due ↦ inr (inl due)
      ];
    }

  -- where all that was given is there, no turn is underway
  pub kept_ends : (members : List ℕ) (ready : List (List ℕ)) (place : ℕ) (given : List ℕ) → AreCovered nodes i run members ready place given → AreWithin (among given) (among members) → IsReady nodes i run members ready
  kept_ends members ready place given kept all = record {
    within = kept.within;
    covered = λ j w u l at named. elim (kept.covered j w u l at named) [
      | inl m ↦ inl m
      | inr r ↦ elim r [ inl due ↦ inr (inl due) | inr g ↦ inl (all u g.1) ]
    ];
  }
