-- Places in groups: what is said at them, how they leave and join, and which of them pass a question.
use Rattle.std.proofs.Common.{◌≡◌, ◌≢◌, ◌⊎◌, ℕ, ◌+◌, ◌/◌, ◌%◌, ◌<◌, ◌≤◌, ◌==◌, max, Bool, true, false, List, [], ◌∷◌, ◌++◌, Option, Some, None, IfSome, if◌then◌else◌, get_or, set, is_some, length, replicate, refl, sym, ◌∙◌, ap, subst, arith, inl, inr, get_or-set_same, get_or-set_other}
use Rattle.std.proofs.lemmas.Bool.{cases_eq, cases_lt, eq-eqb, ne_eqb, le-ltb, lt-ltb, false≢true, true≢false, false_from_ne_true}
use Rattle.std.proofs.lemmas.List.{get_or-replicate, get_or_past, length-append, length-replicate}
use Rattle.std.proofs.lemmas.List.Elements.{Contains-get_or}
use Rattle.std.proofs.lemmas.Nat.Bits.{bit_at-lt, bit_at-zero}
use Rattle.std.proofs.Math.Seq.{get_or-append_seam}
use Rattle.std.proofs.Math.ListN.{get_or-append}
use Rattle.scp_types.specs.declared.kind.Kind.{Kind}
use Rattle.scp_types.specs.declared.statement.Statement.{Statement}
use Rattle.scp_types.specs.Statements.{Sent}
use Rattle.std.specs.Int.{bit_at}
use Rattle.scp_bits.specs.Met.{IsAdded, one_where}
use Rattle.scp_bits.specs.Places.{bit_of}
use Rattle.scp_spec.specs.Backing.{is_passed}
use Rattle.scp_spec.specs.Rows.{row, with_row}
use Rattle.scp_spec.specs.Sets.{IsAscending}
use Rattle.scp_spec.proofs.Statements.Offers.{is_row_of-parts}
use Rattle.node_view.specs.Grouping.{AreAllGrouped, AreGrouped, AreGroups, HasLeft, IsGroup, IsOutside, said_at}
use Rattle.node_view.specs.Knowing.{is_heard}
use Rattle.node_view.specs.Watching.{RowsOfNodes, passes_at, said_by_another}
use Rattle.node_view.specs.Words.{AreJoined}
use Rattle.node_view.specs.declared.alike.Alike.{Alike}
use Rattle.node_view.proofs.EntryLaws.{apart}
use Rattle.node_view.proofs.Following.{as_before, now_said, other_row}
use Rattle.node_view.proofs.FoundRows.{row_is, said_from}
use Rattle.node_view.proofs.WordLaws.{none_behind}

-- ---- what is said at a place
-- nothing is said behind the last
said_behind : (own : ℕ) (rows : RowsOfNodes) (i : ℕ) → length rows.nodes ≤ i → said_at own rows i ≡ None
said_behind own rows i behind = ap (λ b. if b then said_by_another own (row rows.table (get_or rows.nodes i 0) rows.kind) else None) (le-ltb i (length rows.nodes) behind)

said_inside : (own : ℕ) (rows : RowsOfNodes) (i : ℕ) → is_some (said_at own rows i) ≡ true → i < length rows.nodes
said_inside own rows i some = elim (cases_lt i (length rows.nodes)) [
  | inl within ↦ within
  | inr behind ↦ absurd (false≢true (sym (ap is_some (said_behind own rows i behind)) ∙ some))
]

said_is : (own : ℕ) (rows : RowsOfNodes) (i : ℕ) → i < length rows.nodes → said_at own rows i ≡ said_by_another own (row rows.table (get_or rows.nodes i 0) rows.kind)
said_is own rows i within = ap (λ b. if b then said_by_another own (row rows.table (get_or rows.nodes i 0) rows.kind) else None) (lt-ltb i (length rows.nodes) within)

module _ (rows : RowsOfNodes) (place : ℕ) (own_passes : Bool) (test : Statement → Bool) where
  abbrev own : ℕ
  own = get_or rows.nodes place 0

  -- whoever says something passes where the test holds of it
  said_passes : (i : ℕ) (s : Statement) → said_at own rows i ≡ Some s → passes_at rows place own_passes test i ≡ test s
  said_passes i s says =
      let u = get_or rows.nodes i 0 in
      let within = said_inside own rows i (ap is_some says) in
      let from = said_from own (row rows.table u rows.kind) s (sym (said_is own rows i within) ∙ says) in
      let sender = (is_row_of-parts u rows.kind from.0 (row_is rows.table u rows.kind from.0 from.1)).0 in
      let other : (own == u) ≡ false = ap (λ v. own == v) (sym sender) ∙ from.2 in
      ap (λ b. if b then own_passes else is_passed test (row rows.table u rows.kind)) other ∙ ap (is_passed test) from.1 ∙ ap test from.3

  -- at places at which the same is said, all pass or none
  pub same_pass : (i k : ℕ) → is_some (said_at own rows i) ≡ true → said_at own rows i ≡ said_at own rows k → passes_at rows place own_passes test i ≡ passes_at rows place own_passes test k
  same_pass i k some same = go (said_at own rows i) refl some
    where
      go : (o : Option Statement) → said_at own rows i ≡ o → is_some o ≡ true → passes_at rows place own_passes test i ≡ passes_at rows place own_passes test k
      go None says is = absurd (false≢true is)
      go (Some s) says is = said_passes i s says ∙ sym (said_passes k s (sym same ∙ says))

  -- another who says nothing does not pass
  silent_fails : (i : ℕ) → i < length rows.nodes → (own == get_or rows.nodes i 0) ≡ false → said_at own rows i ≡ None → passes_at rows place own_passes test i ≡ false
  silent_fails i within other silent = ap (λ b. if b then own_passes else is_passed test (row rows.table (get_or rows.nodes i 0) rows.kind)) other ∙ go (row rows.table (get_or rows.nodes i 0) rows.kind) refl
    where
      go : (o : Option Sent) → row rows.table (get_or rows.nodes i 0) rows.kind ≡ o → is_passed test o ≡ false
      go None at = refl
      go (Some e) at =
          let sender = (is_row_of-parts (get_or rows.nodes i 0) rows.kind e (row_is rows.table (get_or rows.nodes i 0) rows.kind e at)).0 in
          let says : said_at own rows i ≡ Some e.body = said_is own rows i within ∙ ap (said_by_another own) at ∙ ap (λ b. if b then None else Some e.body) (ap (λ v. own == v) sender ∙ other) in
          let none : None ≡ Some e.body = sym silent ∙ says in
          cc

-- ---- bits
pub never_both : (n : ℕ) → n ≡ 0 → n ≡ 1 → ⊥
never_both n a b = omega (arith, a, b)

no_bit : (ws : List ℕ) (i : ℕ) → (bit_of ws i ≡ 1 → ⊥) → bit_of ws i ≡ 0
no_bit ws i out = let few = bit_at-lt (get_or ws (i / 64) 0) (i % 64) in omega (arith, few, out)

-- ---- places that leave
module _ (place : ℕ) (old new : Alike) (left : HasLeft place old new) where
  stayed : (j i : ℕ) → bit_of (get_or new.groups.items j []) i ≡ 1 → (place ≢ i) × (bit_of (get_or old.groups.items j []) i ≡ 1)
  stayed j i is = elim (cases_eq place i) [
    | inl here ↦ absurd (never_both (bit_of (get_or new.groups.items j []) i) (left.groups j i ∙ ap (λ b. if b then 0 else bit_of (get_or old.groups.items j []) i) (eq-eqb place i here)) is)
    | inr there ↦ (there, sym (left.groups j i ∙ ap (λ b. if b then 0 else bit_of (get_or old.groups.items j []) i) (ne_eqb place i there)) ∙ is)
  ]

  left_groups : (before after : ℕ → Option Statement) → ((i : ℕ) → place ≢ i → before i ≡ after i) → AreGroups before old.groups.items → AreGroups after new.groups.items
  left_groups before after others are j = record {
    something = λ i is.
        let s = stayed j i is in
        ap is_some (sym (others i s.0)) ∙ (are j).something i s.1;
    same = λ i k is at.
        let s = stayed j i is in
        let t = stayed j k at in
        sym (others i s.0) ∙ (are j).same i k s.1 t.1 ∙ others k t.0;
  }

  left_outside : (i : ℕ) → place ≢ i → IsOutside new i → IsOutside old i
  left_outside i there out = record {
    groups = λ j. sym (left.groups j i ∙ ap (λ b. if b then 0 else bit_of (get_or old.groups.items j []) i) (ne_eqb place i there)) ∙ out.groups j;
    rest = sym (left.rest i ∙ ap (λ b. if b then 0 else bit_of old.rest i) (ne_eqb place i there)) ∙ out.rest;
  }

-- ---- places that join
-- a set with one place more
abbrev pub IsPut : ℕ → List ℕ → List ℕ → Type 0
IsPut place old new = (i : ℕ) → bit_of new i ≡ (if place == i then 1 else bit_of old i)

module _ (place : ℕ) (old new : List ℕ) (put : IsPut place old new) where
  -- a place of it is the one that came, or was there
  put_from : (i : ℕ) → bit_of new i ≡ 1 → (place ≡ i) ⊎ (bit_of old i ≡ 1)
  put_from i is = elim (cases_eq place i) [
    | inl here ↦ inl here
    | inr there ↦ inr (sym (put i ∙ ap (λ b. if b then 1 else bit_of old i) (ne_eqb place i there)) ∙ is)
  ]

  pub put_out : (i : ℕ) → bit_of new i ≡ 0 → (place ≢ i) × (bit_of old i ≡ 0)
  put_out i out = elim (cases_eq place i) [
    | inl here ↦ absurd (never_both (bit_of new i) out (put i ∙ ap (λ b. if b then 1 else bit_of old i) (eq-eqb place i here)))
    | inr there ↦ (there, sym (put i ∙ ap (λ b. if b then 1 else bit_of old i) (ne_eqb place i there)) ∙ out)
  ]

  pub group_put : (said : ℕ → Option Statement) → is_some (said place) ≡ true → ((i : ℕ) → bit_of old i ≡ 1 → said i ≡ said place) → IsGroup said new
  group_put said some says = record {
    something = λ i is. elim (put_from i is) [
      | inl here ↦ ap (λ k. is_some (said k)) (sym here) ∙ some
      | inr there ↦ ap is_some (says i there) ∙ some
    ];
    same = λ i k is at. all i (put_from i is) ∙ sym (all k (put_from k at));
  }
    where
      all : (i : ℕ) → (place ≡ i) ⊎ (bit_of old i ≡ 1) → said i ≡ said place
      all i (inl here) = ap said (sym here)
      all i (inr there) = says i there

-- a set in which no bit is has no places
empty_group : (said : ℕ → Option Statement) (ws : List ℕ) → ((i : ℕ) → bit_of ws i ≡ 0) → IsGroup said ws
empty_group said ws none = record {
  something = λ i is. absurd (omega (arith, is, none i));
  same = λ i k is at. absurd (omega (arith, is, none i));
}

pub zero_words : (n i : ℕ) → bit_of (replicate n 0) i ≡ 0
zero_words n i = elim (cases_lt (i / 64) n) [
  | inl within ↦ ap (λ w. bit_at w (i % 64)) (get_or-replicate n (i / 64) 0 0 within) ∙ bit_at-zero (i % 64)
  | inr behind ↦ none_behind (replicate n 0) i (omega (arith, behind, length-replicate {A = ℕ} n 0))
]

nothing_in : (i : ℕ) → bit_of [] i ≡ 0
nothing_in i = bit_at-zero (i % 64)

-- ---- a place that leaves each group in turn
-- the place has left the first groups, and the others are as they were
pub record LeftTo (place n : ℕ) (old new : List (List ℕ)) : Type 0 where
  pub before : (j i : ℕ) → j < n → bit_of (get_or new j []) i ≡ (if place == i then 0 else bit_of (get_or old j []) i)
  pub behind : (j : ℕ) → n ≤ j → get_or new j [] ≡ get_or old j []

-- ---- a place that joins a group, or begins one
module _ (place n : ℕ) (gs : List (List ℕ)) (now : List ℕ) (inside : n < length gs) (put : IsPut place (get_or gs n []) now) where
  pub joined_groups : (said : ℕ → Option Statement) → is_some (said place) ≡ true → ((i : ℕ) → bit_of (get_or gs n []) i ≡ 1 → said i ≡ said place) → AreGroups said gs → AreGroups said (set gs n now)
  joined_groups said some says are j = elim (cases_eq j n) [
    | inl here ↦ subst (IsGroup said) (sym (ap (λ k. get_or (set gs n now) k []) here ∙ get_or-set_same gs n now [] inside)) (group_put place (get_or gs n []) now put said some says)
    | inr there ↦ subst (IsGroup said) (sym (get_or-set_other gs n j now [] there)) (are j)
  ]

  pub joined_outside : (i : ℕ) → ((j : ℕ) → bit_of (get_or (set gs n now) j []) i ≡ 0) → (place ≢ i) × ((j : ℕ) → bit_of (get_or gs j []) i ≡ 0)
  joined_outside i out =
      let at = put_out place (get_or gs n []) now put i (ap (λ g. bit_of g i) (sym (get_or-set_same gs n now [] inside)) ∙ out n) in (
        at.0,
        λ j. elim (cases_eq j n) [
          | inl here ↦ ap (λ k. bit_of (get_or gs k []) i) here ∙ at.1
          | inr there ↦ ap (λ g. bit_of g i) (sym (get_or-set_other gs n j now [] there)) ∙ out j
        ],
      )

pub begun_groups : (said : ℕ → Option Statement) (gs : List (List ℕ)) (g : List ℕ) → AreGroups said gs → IsGroup said g → AreGroups said (gs ++ g ∷ [])
begun_groups said gs g are is j = elim (cases_lt j (length gs)) [
  | inl before ↦ subst (IsGroup said) (sym (get_or-append gs (g ∷ []) [] j before)) (are j)
  | inr behind ↦ elim (cases_eq j (length gs)) [
    | inl here ↦ subst (IsGroup said) (sym (ap (λ k. get_or (gs ++ g ∷ []) k []) here ∙ get_or-append_seam gs g [] [])) is
    | inr there ↦ subst (IsGroup said) (sym (get_or_past (gs ++ g ∷ []) j [] (beyond behind there))) (empty_group said [] nothing_in)
  ]
]
  where
    beyond : length gs ≤ j → j ≢ length gs → length (gs ++ g ∷ []) ≤ j
    beyond behind there = omega (arith, behind, there, length-append gs (g ∷ []))

pub begun_outside : (gs : List (List ℕ)) (g : List ℕ) (i : ℕ) → ((j : ℕ) → bit_of (get_or (gs ++ g ∷ []) j []) i ≡ 0) → ((j : ℕ) → bit_of (get_or gs j []) i ≡ 0) × (bit_of g i ≡ 0)
begun_outside gs g i out = (
  λ j. elim (cases_lt j (length gs)) [
    | inl before ↦ ap (λ x. bit_of x i) (sym (get_or-append gs (g ∷ []) [] j before)) ∙ out j
    | inr behind ↦ ap (λ x. bit_of x i) (get_or_past gs j [] behind) ∙ nothing_in i
  ],
  ap (λ x. bit_of x i) (sym (get_or-append_seam gs g [] [])) ∙ out (length gs),
)

-- ---- a new row
module _ (own : ℕ) (nodes : List ℕ) (k : Kind) (old : List Sent) (e : Sent) where
  abbrev rows_in : List Sent → RowsOfNodes
  rows_in t = record { nodes = nodes; table = t; kind = k }

  module _ (heard : is_heard k own nodes e ≡ true) (ascending : IsAscending nodes) (place : ℕ) (inside : place < length nodes) (sender : get_or nodes place 0 ≡ e.sender) where
    sender_says : said_at own (rows_in (with_row e old)) place ≡ Some e.body
    sender_says = said_is own (rows_in (with_row e old)) place inside ∙ ap (λ u. said_by_another own (row (with_row e old) u k)) sender ∙ now_said k own nodes old e heard

    others_say : (i : ℕ) → place ≢ i → said_at own (rows_in old) i ≡ said_at own (rows_in (with_row e old)) i
    others_say i other = elim (cases_lt i (length nodes)) [
      | inl within ↦
          let apart_from : (e.sender == get_or nodes i 0) ≡ false = ap (λ u. u == get_or nodes i 0) (sym sender) ∙ apart nodes place i ascending inside within other in
          said_is own (rows_in old) i within ∙ ap (said_by_another own) (sym (other_row k own nodes old e heard (get_or nodes i 0) apart_from)) ∙ sym (said_is own (rows_in (with_row e old)) i within)
      | inr behind ↦ said_behind own (rows_in old) i behind ∙ sym (said_behind own (rows_in (with_row e old)) i behind)
    ]

    -- the sender's place leaves, and joins those that say the same
    pub alike_followed : (before mid after : Alike) → AreGrouped own (rows_in old) before → HasLeft place before mid
        → (place / 64 < 8 → said_at own (rows_in (with_row e old)) place ≡ Some e.body → AreGroups (said_at own (rows_in (with_row e old))) mid.groups.items → AreGroups (said_at own (rows_in (with_row e old))) after.groups.items)
        → (place / 64 < 8 → (i : ℕ) → IsOutside after i → (place ≢ i) × IsOutside mid i)
        → AreGrouped own (rows_in (with_row e old)) after
    alike_followed before mid after are left groups outside = record {
      few = are.few;
      groups = groups short sender_says (left_groups place before mid left (said_at own (rows_in old)) (said_at own (rows_in (with_row e old))) others_say are.groups);
      outside = λ i out.
          let o = outside short i out in
          sym (others_say i o.0) ∙ are.outside i (left_outside place before mid left i o.0 o.1);
    }
      where
        short : place / 64 < 8
        short = omega (arith, inside, are.few)

  -- a row of the other kind, of the node itself or of a stranger leaves all as it is
  alike_stays : is_heard k own nodes e ≡ false → (a : Alike) → AreGrouped own (rows_in old) a → AreGrouped own (rows_in (with_row e old)) a
  alike_stays unheard a are =
      let same : said_at own (rows_in old) ≡ said_at own (rows_in (with_row e old)) = λ t i. says i t in
      record {
        few = are.few;
        groups = subst (λ (said : ℕ → Option Statement). AreGroups said a.groups.items) same are.groups;
        outside = λ i out. sym (says i) ∙ are.outside i out;
      }
    where
      says : (i : ℕ) → said_at own (rows_in old) i ≡ said_at own (rows_in (with_row e old)) i
      says i = elim (cases_lt i (length nodes)) [
        | inl within ↦ said_is own (rows_in old) i within ∙ sym (as_before k own nodes old e unheard (get_or nodes i 0) (Contains-get_or nodes i 0 within)) ∙ sym (said_is own (rows_in (with_row e old)) i within)
        | inr behind ↦ said_behind own (rows_in old) i behind ∙ sym (said_behind own (rows_in (with_row e old)) i behind)
      ]

  pub none_stirred : is_heard k own nodes e ≡ false → (o : Option Alike) → IfSome o (λ a. AreGrouped own (rows_in old) a) → IfSome o (λ a. AreGrouped own (rows_in (with_row e old)) a)
  none_stirred unheard None are = tt
  none_stirred unheard (Some a) are = alike_stays unheard a are

-- ---- groups that pass a question
-- a bit of two
max_left : (a b : ℕ) → b < 2 → a ≡ 1 → max a b ≡ 1
max_left a b few is = omega (arith, few, is)

max_right : (a b : ℕ) → a < 2 → b ≡ 1 → max a b ≡ 1
max_right a b few is = omega (arith, few, is)

max_either : (a b : ℕ) → a < 2 → b < 2 → max a b ≡ 1 → (a ≡ 1) ⊎ (b ≡ 1)
max_either a b few small is = elim (cases_eq a 1) [
  | inl here ↦ inl here
  | inr there ↦ inr (omega (arith, few, small, is, there))
]

few_bits : (ws : List ℕ) (i : ℕ) → bit_of ws i < 2
few_bits ws i = bit_at-lt (get_or ws (i / 64) 0) (i % 64)

-- a set with room for so many places has those at which the first groups are and that pass, and none that does not pass
pub record HasFirst (passes : ℕ → Bool) (count n : ℕ) (gs : List (List ℕ)) (ws : List ℕ) : Type 0 where
  pub room : (i : ℕ) → i < count → i / 64 < length ws
  pub all : (i j : ℕ) → i < count → j < n → bit_of (get_or gs j []) i ≡ 1 → passes i ≡ true → bit_of ws i ≡ 1
  pub only : (i : ℕ) → i < count → bit_of ws i ≡ 1 → passes i ≡ true

module _ (passes : ℕ → Bool) (count n : ℕ) (gs : List (List ℕ)) (ws : List ℕ) (so_far : HasFirst passes count n gs ws) where
  under : (j : ℕ) → j < n + 1 → j ≢ n → j < n
  under j within there = omega (arith, within, there)

  -- one more group passes
  pub group_added : (new : List ℕ) → AreJoined ws (get_or gs n []) new → ((i : ℕ) → bit_of (get_or gs n []) i ≡ 1 → passes i ≡ true) → HasFirst passes count (n + 1) gs new
  group_added new joined pass = record {
    room = λ i within. subst (λ k. i / 64 < k) (sym joined.as_many) (so_far.room i within);
    all = λ i j within before is it. joined.each i (so_far.room i within) ∙ elim (cases_eq j n) [
      | inl here ↦ max_right (bit_of ws i) (bit_of (get_or gs n []) i) (few_bits ws i) (ap (λ k. bit_of (get_or gs k []) i) (sym here) ∙ is)
      | inr there ↦ max_left (bit_of ws i) (bit_of (get_or gs n []) i) (few_bits (get_or gs n []) i) (so_far.all i j within (under j before there) is it)
    ];
    only = λ i within is. elim (max_either (bit_of ws i) (bit_of (get_or gs n []) i) (few_bits ws i) (few_bits (get_or gs n []) i) (sym (joined.each i (so_far.room i within)) ∙ is)) [
      | inl there ↦ so_far.only i within there
      | inr here ↦ pass i here
    ];
  }

  -- one more does not
  pub group_passed_over : ((i : ℕ) → bit_of (get_or gs n []) i ≡ 1 → passes i ≡ false) → HasFirst passes count (n + 1) gs ws
  group_passed_over fail = record {
    room = so_far.room;
    all = λ i j within before is it. elim (cases_eq j n) [
      | inl here ↦ absurd (false≢true (sym (fail i (ap (λ k. bit_of (get_or gs k []) i) (sym here) ∙ is)) ∙ it))
      | inr there ↦ so_far.all i j within (under j before there) is it
    ];
    only = so_far.only;
  }

-- ---- all who pass
module _ (rows : RowsOfNodes) (place : ℕ) (own_passes : Bool) (test : Statement → Bool) where
  abbrev passing : ℕ → Bool
  passing = passes_at rows place own_passes test

  module _ (ascending : IsAscending rows.nodes) (inside : place < length rows.nodes) (gs : List (List ℕ)) (are : AreAllGrouped (get_or rows.nodes place 0) rows gs) (n : ℕ) (end : length gs ≤ n) (ws : List ℕ)
      (found : HasFirst passing (length rows.nodes) n gs ws) where
    itself : passing place ≡ own_passes
    itself = ap (λ b. if b then own_passes else is_passed test (row rows.table (get_or rows.nodes place 0) rows.kind)) (eq-eqb (get_or rows.nodes place 0) (get_or rows.nodes place 0) refl)

    -- another is in the set if it passes
    other_is : (i : ℕ) → i < length rows.nodes → place ≢ i → bit_of ws i ≡ one_where (passing i)
    other_is i within other = elim (cases_eq (bit_of ws i) 1) [
      | inl is ↦ is ∙ sym (ap one_where (found.only i within is))
      | inr out ↦ no_bit ws i out ∙ sym (ap one_where (false_from_ne_true (passing i) (λ it. true≢false (sym it ∙ silent_fails rows place own_passes test i within (apart rows.nodes place i ascending inside within other) (are.outside i (λ j. no_bit (get_or gs j []) i (λ is. out (found.all i j within (listed j is) is it))))))))
    ]
      where
        listed : (j : ℕ) → bit_of (get_or gs j []) i ≡ 1 → j < n
        listed j is = elim (cases_lt j n) [
          | inl there ↦ there
          | inr behind ↦ absurd (never_both (bit_of (get_or gs j []) i) (ap (λ g. bit_of g i) (get_or_past gs j [] (omega (arith, end, behind))) ∙ nothing_in i) is)
        ]

    -- the node itself passes
    pub all_with_itself : (new : List ℕ) → own_passes ≡ true → IsAdded place ws new → (i : ℕ) → i < length rows.nodes → bit_of new i ≡ one_where (passing i)
    all_with_itself new its added i within = elim (cases_eq place i) [
      | inl here ↦ added.1 i ∙ ap (λ b. if b then 1 else bit_of ws i) (eq-eqb place i here) ∙ sym (ap one_where (ap passing (sym here) ∙ itself ∙ its))
      | inr there ↦ added.1 i ∙ ap (λ b. if b then 1 else bit_of ws i) (ne_eqb place i there) ∙ other_is i within there
    ]

    -- it does not
    pub all_without_itself : own_passes ≡ false → (i : ℕ) → i < length rows.nodes → bit_of ws i ≡ one_where (passing i)
    all_without_itself fails i within = elim (cases_eq place i) [
      | inl here ↦
          let silent : passing i ≡ false = ap passing (sym here) ∙ itself ∙ fails in
          no_bit ws i (λ is. false≢true (sym silent ∙ found.only i within is)) ∙ sym (ap one_where silent)
      | inr there ↦ other_is i within there
    ]
