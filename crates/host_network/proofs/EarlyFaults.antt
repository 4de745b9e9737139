-- A fault of the version or of the kind stands in the first byte or in the second: what comes behind them has none such.
use Rattle.std.proofs.Common.{◌≡◌, ℕ, zero, suc, Bool, true, false, cond, eqb, ltb, List, [], ◌∷◌, ◌++◌, length, take, drop, Option, Some, None, Result, Ok, Err, refl, sym, subst, inl, inr, ◌⊎◌}
use Rattle.std.specs.Prelude.{⊤}
use Rattle.std.specs.Int.{Width, w16, w32, w64, byte_len, from_be_bytes}
use Rattle.scp_types.specs.Statements.{Sent, is_well_formed}
use Rattle.scp_types.specs.Trees.{Slices, none}
use Rattle.scp_types.specs.declared.statement.Statement.{Statement}
use Rattle.scp_types.specs.declared.statement.Statement.TheVariants.{Nominate, Prepare, Commit, Externalize}
use Rattle.scp_codec.specs.declared.error.Fault.{Fault}
use Rattle.scp_codec.specs.declared.error.Fault.TheVariants.{Truncated, TrailingBytes, Version, Kind, Limit, BadSlices, BadStatement, SpareVersion}
use Rattle.scp_codec.specs.Steps.{◌>>=◌, Reads, byte_at, number_at, bytes_at, read_then, unless, read_judged, read_as, read_either}
use Rattle.scp_codec.specs.Spelling.{version_of}
use Rattle.scp_codec.specs.Faults.{HasOtherKind, HasOtherVersion, version_fault, spare_fault, kind_fault, header_fault, is_among, name_fault, length_fault, count_fault, statement_fault}
use Rattle.scp_codec.specs.Parts.{part_names, part_before}
use Rattle.scp_codec.specs.Grammar.{levels_in}
use Rattle.scp_codec.specs.Reading.{envelope_of, name_of, some_or_none, name_at, value_at, ballot_at, optional_at, new_name_at, member_at, member_list_at, header_at, set_with, inner_at, nested_at, slices_at, values_at, nominated_at, nominate_at, prepare_at, commit_at, externalize_at, body_at, statement_at, version_at, kind_at, parts_at, envelope_at, decoding}
use Rattle.scp_codec.proofs.FieldLaws.{chosen, ok_is}
use Rattle.scp_codec.proofs.FormatLaws.{bind_err, err_is}

-- neither of the version nor of the kind
abbrev pub IsLate : Fault → Type 0
IsLate Version = ⊥
IsLate Kind = ⊥
IsLate _ = ⊤

-- what was read, and that nothing was
abbrev read : {X : Type 0} → X → Result X Fault
read x = Ok x

abbrev failed : {X : Type 0} → Fault → Result X Fault
failed f = Err f

not_both : {X : Type 0} (x : X) (f : Fault) → read x ≡ Err f → ⊥
not_both x f e = cc

late_as : {X : Type 0} (g f : Fault) → IsLate g → failed {X = X} g ≡ Err f → IsLate f
late_as {X} g f l e = subst IsLate (err_is {A = X} g f (Err g) refl e) l

-- ---- judgements
judged_as : {A : Type 0} (j : Option Fault) (a : A) (f : Fault) → unless j a ≡ Err f → j ≡ Some f
judged_as {A} None a f e = absurd (not_both a f e)
judged_as {A} (Some g) a f e = by_same (err_is {A = A} g f (Err g) refl e)
  where
    by_same : g ≡ f → Some g ≡ Some f
    by_same q = (λ i. Some (q i))

stands_as : {A : Type 0} (j : Option Fault) (a x : A) → unless j a ≡ Ok x → (j ≡ None) × (a ≡ x)
stands_as None a x e = (refl, ok_is a x e)
stands_as (Some g) a x e = absurd cc

-- none of its faults is of the version or of the kind
abbrev AreLate : Option Fault → Type 0
AreLate o = (f : Fault) → o ≡ Some f → IsLate f

none_late : AreLate None
none_late f e = absurd (no f e)
  where
    no : (f : Fault) → None ≡ Some f → ⊥
    no f e = cc

some_late : (g : Fault) → IsLate g → AreLate (Some g)
some_late g l f e = subst IsLate (is g f e) l
  where
    is : (g f : Fault) → Some g ≡ Some f → g ≡ f
    is g f e = cc

if_late : (b : Bool) (o p : Option Fault) → AreLate o → AreLate p → AreLate (cond b o p)
if_late true o p k l = k
if_late false o p k l = l

spare_late : (v : ℕ) (q : Slices) → AreLate (spare_fault v q)
spare_late v q = if_late (eqb v (version_of q)) None (Some SpareVersion) none_late (some_late SpareVersion tt)

header_late : (h : ℕ × ℕ) → AreLate (header_fault h)
header_late h =
    if_late (eqb h.0 0) (Some BadSlices) _ (some_late BadSlices tt)
    (if_late (ltb h.1 h.0) (Some BadSlices) _ (some_late BadSlices tt) (if_late (ltb 64 h.1) (Some Limit) None (some_late Limit tt) none_late))

name_late : (seen : List ℕ) (u : ℕ) → AreLate (name_fault seen u)
name_late seen u =
    if_late (eqb (length seen) 256) (Some Limit) _ (some_late Limit tt)
    (if_late (is_among seen u) (Some BadSlices) None (some_late BadSlices tt) none_late)

length_late : (n : ℕ) → AreLate (length_fault n)
length_late n =
    if_late (eqb n 0) (Some Limit) _ (some_late Limit tt) (if_late (ltb 256 n) (Some Limit) None (some_late Limit tt) none_late)

count_late : (n : ℕ) → AreLate (count_fault n)
count_late n = if_late (ltb 16 n) (Some Limit) None (some_late Limit tt) none_late

statement_late : (s : Statement) → AreLate (statement_fault s)
statement_late s = if_late (is_well_formed s) None (Some BadStatement) none_late (some_late BadStatement tt)

-- ---- reading in parts
record Lately {X : Type 0} (r : List ℕ → Result (X × List ℕ) Fault) : Type 0 where
  late : (text : List ℕ) (f : Fault) → r text ≡ Err f → IsLate f

module _ {A B : Type 0} {r : List ℕ → Result (A × List ℕ) Fault} {s : A → List ℕ → Result (B × List ℕ) Fault} (first : Lately r) (second : (a : A) → Lately (s a)) where
  abbrev joined : A → B × List ℕ → Result ((A × B) × List ℕ) Fault
  joined a b = Ok ((a, b.0), b.1)

  abbrev more : A × List ℕ → Result ((A × B) × List ℕ) Fault
  more a = s a.0 a.1 >>= λ b. Ok ((a.0, b.0), b.1)

  lately_then : Lately (read_then r s)
  lately_then = record {
    late = λ text f e.
        elim (bind_err (r text) more f e) [
          | inl h ↦ first.late text f h
          | inr h ↦ elim (bind_err (s h.0.0 h.0.1) (joined h.0.0) f h.2) [
            | inl k ↦ (second h.0.0).late h.0.1 f k
            | inr k ↦ absurd (not_both ((h.0.0, k.0.0), k.0.1) f k.2)
          ]
        ];
  }

module _ {A : Type 0} {r : List ℕ → Result (A × List ℕ) Fault} (part : Lately r) where
  lately_judged : (judge : A → Option Fault) → ((a : A) → AreLate (judge a)) → Lately (read_judged r judge)
  lately_judged judge late = record {
    late = λ text f e.
        elim (bind_err (r text) (λ (a : A × List ℕ). unless (judge a.0) a) f e) [
          | inl h ↦ part.late text f h
          | inr h ↦ late h.0.0 f (judged_as (judge h.0.0) h.0 f h.2)
        ];
  }

  lately_as : {B : Type 0} (to : A → B) → Lately (read_as r to)
  lately_as {B} to = record {
    late = λ text f e.
        elim (bind_err (r text) (λ (a : A × List ℕ). Ok (to a.0, a.1)) f e) [
          | inl h ↦ part.late text f h
          | inr h ↦ absurd (not_both (to h.0.0, h.0.1) f h.2)
        ];
  }

lately_byte : Lately byte_at
lately_byte = record { late = late }
  where
    late : (text : List ℕ) (f : Fault) → byte_at text ≡ Err f → IsLate f
    late [] f e = late_as {X = ℕ × List ℕ} Truncated f tt e
    late (b ∷ rest) f e = absurd (not_both (b, rest) f e)

module _ {A B : Type 0} {r : List ℕ → Result (A × List ℕ) Fault} {s : List ℕ → Result (B × List ℕ) Fault} (left : Lately r) (right : Lately s) (i j : ℕ) (fault : Fault) (other : IsLate fault) where
  abbrev as_left : A × List ℕ → Result ((A ⊎ B) × List ℕ) Fault
  as_left a = Ok (inl a.0, a.1)

  abbrev as_right : B × List ℕ → Result ((A ⊎ B) × List ℕ) Fault
  as_right b = Ok (inr b.0, b.1)

  abbrev by_tag : ℕ × List ℕ → Result ((A ⊎ B) × List ℕ) Fault
  by_tag tag = cond (eqb tag.0 i) (r tag.1 >>= as_left) (cond (eqb tag.0 j) (s tag.1 >>= as_right) (Err fault))

  on_left : (text : List ℕ) (f : Fault) → (r text >>= as_left) ≡ Err f → IsLate f
  on_left text f e =
      elim (bind_err (r text) as_left f e) [
        | inl h ↦ left.late text f h
        | inr h ↦ absurd (not_both {X = (A ⊎ B) × List ℕ} (inl h.0.0, h.0.1) f h.2)
      ]

  on_right : (text : List ℕ) (f : Fault) → (s text >>= as_right) ≡ Err f → IsLate f
  on_right text f e =
      elim (bind_err (s text) as_right f e) [
        | inl h ↦ right.late text f h
        | inr h ↦ absurd (not_both {X = (A ⊎ B) × List ℕ} (inr h.0.0, h.0.1) f h.2)
      ]

  lately_either : Lately (read_either i r j s fault)
  lately_either = record {
    late = λ text f e.
        elim (bind_err (byte_at text) by_tag f e) [
          | inl h ↦ lately_byte.late text f h
          | inr t ↦ elim (chosen (eqb t.0.0 i) (r t.0.1 >>= as_left) (cond (eqb t.0.0 j) (s t.0.1 >>= as_right) (Err fault)) (Err f) t.2) [
            | inl h ↦ on_left t.0.1 f h.1
            | inr h ↦ elim (chosen (eqb t.0.0 j) (s t.0.1 >>= as_right) (Err fault) (Err f) h.1) [
              | inl k ↦ on_right t.0.1 f k.1
              | inr k ↦ late_as {X = (A ⊎ B) × List ℕ} fault f other k.1
            ]
          ]
        ];
  }

lately_if : {A : Type 0} {r s : List ℕ → Result (A × List ℕ) Fault} (b : Bool) → Lately r → Lately s → Lately (λ text. cond b (r text) (s text))
lately_if true p q = p
lately_if false p q = q

-- ---- the smallest parts
lately_bytes : (n : ℕ) → Lately (bytes_at n)
lately_bytes n = record {
  late = λ text f e.
      elim (chosen (ltb (length text) n) (Err Truncated) (Ok (take n text, drop n text)) (Err f) e) [
        | inl h ↦ late_as {X = List ℕ × List ℕ} Truncated f tt h.1
        | inr h ↦ absurd (not_both (take n text, drop n text) f h.1)
      ];
}

lately_number : (w : Width) → Lately (number_at w)
lately_number w = record {
  late = λ text f e.
      elim (chosen (ltb (length text) (byte_len w)) (Err Truncated) (Ok (from_be_bytes w (take (byte_len w) text), drop (byte_len w) text)) (Err f) e) [
        | inl h ↦ late_as {X = ℕ × List ℕ} Truncated f tt h.1
        | inr h ↦ absurd (not_both (from_be_bytes w (take (byte_len w) text), drop (byte_len w) text) f h.1)
      ];
}

lately_none : {A : Type 0} (a : A) → Lately (λ text. Ok (a, text))
lately_none a = record { late = λ text f e. absurd (not_both (a, text) f e) }

-- ---- names, values and ballots
lately_name : Lately name_at
unfolding name_at
lately_name =
    lately_as (lately_then (lately_number w64) (λ a. lately_then (lately_number w64) (λ b. lately_then (lately_number w64) (λ c. lately_number w64)))) name_of

lately_value : Lately value_at
unfolding value_at
lately_value = lately_as (lately_then (lately_judged (lately_number w16) length_fault length_late) lately_bytes) (λ x. x.1)

lately_ballot : Lately ballot_at
unfolding ballot_at
lately_ballot = lately_as (lately_then (lately_number w32) (λ c. lately_value)) (λ x. record { counter = x.0; value = x.1 })

lately_optional : Lately optional_at
unfolding optional_at
lately_optional = lately_as (lately_either (lately_none (tt {0})) lately_ballot 0 1 BadStatement tt) some_or_none

-- ---- slices
lately_members : (set_of : List ℕ → Reads Slices) → ((seen : List ℕ) → Lately (set_of seen)) → (n : ℕ) (seen : List ℕ) → Lately (member_list_at set_of n seen)
unfolding member_list_at member_at new_name_at
lately_members set_of inside zero seen = lately_none none
lately_members set_of inside (suc n) seen =
    lately_as (lately_then (lately_either (lately_judged lately_name (name_fault seen) (name_late seen)) (inside seen) 0 1 BadSlices tt) (λ m. lately_members set_of inside n (seen ++ part_names m))) (λ x. part_before x.0 x.1)

lately_set : (set_of : List ℕ → Reads Slices) → ((seen : List ℕ) → Lately (set_of seen)) → (seen : List ℕ) → Lately (set_with set_of seen)
unfolding set_with header_at
lately_set set_of inside seen =
    lately_as (lately_then (lately_judged (lately_then lately_byte (λ k. lately_byte)) header_fault header_late) (λ h. lately_members set_of inside h.1 seen)) (λ x. record { threshold = x.0.0; members = x.1 })

lately_inner : (levels : ℕ) (seen : List ℕ) → Lately (inner_at levels seen)
unfolding inner_at
lately_inner zero seen = record { late = λ text f e. late_as {X = Slices × List ℕ} BadSlices f tt e }
lately_inner (suc levels) seen = lately_set (inner_at levels) (lately_inner levels) seen

lately_slices : (v : ℕ) → Lately (slices_at v)
unfolding slices_at nested_at
lately_slices v = lately_judged (lately_set (inner_at (levels_in v)) (lately_inner (levels_in v)) []) (spare_fault v) (spare_late v)

-- ---- statements
lately_values : (n : ℕ) → Lately (values_at n)
unfolding values_at
lately_values zero = lately_none []
lately_values (suc n) = lately_as (lately_then lately_value (λ v. lately_values n)) (λ x. x.0 ∷ x.1)

lately_nominated : Lately nominated_at
unfolding nominated_at
lately_nominated = lately_as (lately_then (lately_judged lately_byte count_fault count_late) lately_values) (λ x. x.1)

lately_nominate : Lately nominate_at
unfolding nominate_at
lately_nominate = lately_as (lately_then lately_nominated (λ v. lately_nominated)) (λ x. Nominate x.0 x.1)

lately_prepare : Lately prepare_at
unfolding prepare_at
lately_prepare =
    lately_as (lately_then lately_ballot (λ b. lately_then lately_optional (λ p. lately_then (lately_number w32) (λ a. lately_then (lately_number w32) (λ h. lately_number w32))))) (λ x. Prepare x.0 x.1.0 x.1.1.0 x.1.1.1.0 x.1.1.1.1)

lately_commit : Lately commit_at
unfolding commit_at
lately_commit =
    lately_as (lately_then lately_ballot (λ b. lately_then (lately_number w32) (λ p. lately_then (lately_number w32) (λ h. lately_number w32)))) (λ x. Commit x.0 x.1.0 x.1.1.0 x.1.1.1)

lately_externalize : Lately externalize_at
unfolding externalize_at
lately_externalize = lately_as (lately_then lately_ballot (λ b. lately_number w32)) (λ x. Externalize x.0 x.1)

lately_statement : (k : ℕ) → Lately (statement_at k)
unfolding statement_at body_at
lately_statement k =
    lately_judged (lately_if (eqb k 1) lately_nominate (lately_if (eqb k 2) lately_prepare (lately_if (eqb k 3) lately_commit lately_externalize))) statement_fault statement_late

-- ---- envelopes
lately_parts : (v k : ℕ) → Lately (parts_at v k)
unfolding parts_at
lately_parts v k = lately_then lately_name (λ u. lately_then (lately_number w64) (λ n. lately_then (lately_slices v) (λ q. lately_statement k)))

-- the fault is another one, or it stands in the first byte or in the second
abbrev pub IsPlaced : List ℕ → Fault → Type 0
IsPlaced text f = IsLate f ⊎ (HasOtherVersion text ⊎ HasOtherKind text)

version_alone : (v : ℕ) (f : Fault) → version_fault v ≡ Some f → version_fault v ≡ Some Version
version_alone v f e = go (eqb v 1) (eqb v 2) e
  where
    go : (a b : Bool) → cond a None (cond b None (Some Version)) ≡ Some f → cond a None (cond b None (Some Version)) ≡ Some Version
    go true b h = absurd cc
    go false true h = absurd cc
    go false false h = refl

kind_alone : (k : ℕ) (f : Fault) → kind_fault k ≡ Some f → kind_fault k ≡ Some Kind
kind_alone k f e = go (eqb k 0) (ltb 4 k) e
  where
    go : (a b : Bool) → cond a (Some Kind) (cond b (Some Kind) None) ≡ Some f → cond a (Some Kind) (cond b (Some Kind) None) ≡ Some Kind
    go true b h = refl
    go false true h = refl
    go false false h = absurd cc

in_version : (text : List ℕ) (f : Fault) → version_at text ≡ Err f → IsPlaced text f
unfolding version_at
in_version [] f e = inl (late_as {X = ℕ × List ℕ} Truncated f tt e)
in_version (v ∷ rest) f e = inr (inl (version_alone v f (judged_as (version_fault v) (v, rest) f e)))

in_kind : (text : List ℕ) (a : ℕ × List ℕ) (f : Fault) → version_at text ≡ Ok a → kind_at a.1 ≡ Err f → IsPlaced text f
unfolding version_at kind_at
in_kind [] a f e h = absurd cc
in_kind (v ∷ []) a f e h =
    let g = stands_as (version_fault v) (v, []) a e in
    inl (late_as {X = ℕ × List ℕ} Truncated f tt (subst (λ (x : ℕ × List ℕ). kind_at x.1 ≡ Err f) (sym g.1) h))
in_kind (v ∷ k ∷ rest) a f e h =
    let g = stands_as (version_fault v) (v, k ∷ rest) a e in
    let q = subst (λ (x : ℕ × List ℕ). kind_at x.1 ≡ Err f) (sym g.1) h in
    inr (inr (g.0, kind_alone k f (judged_as (kind_fault k) (k, rest) f q)))

abbrev behind : ℕ → List ℕ → Result ((ℕ × (ℕ × (ℕ × (Slices × Statement)))) × List ℕ) Fault
behind v = read_then kind_at (λ k. parts_at v k)

behind_version : (text : List ℕ) (a : ℕ × List ℕ) (f : Fault) → version_at text ≡ Ok a → behind a.0 a.1 ≡ Err f → IsPlaced text f
behind_version text a f e h =
    elim (bind_err (kind_at a.1) (λ (k : ℕ × List ℕ). parts_at a.0 k.0 k.1 >>= λ b. Ok ((k.0, b.0), b.1)) f h) [
      | inl k ↦ in_kind text a f e k
      | inr k ↦ elim (bind_err (parts_at a.0 k.0.0 k.0.1) (λ b. Ok ((k.0.0, b.0), b.1)) f k.2) [
        | inl p ↦ inl ((lately_parts a.0 k.0.0).late k.0.1 f p)
        | inr p ↦ absurd (not_both ((k.0.0, p.0.0), p.0.1) f p.2)
      ]
    ]

in_envelope : (text : List ℕ) (f : Fault) → envelope_at text ≡ Err f → IsPlaced text f
unfolding envelope_at
in_envelope text f e =
    elim (bind_err (read_then version_at behind text) (λ x. Ok (envelope_of x.0, x.1)) f e) [
      | inl h ↦ elim (bind_err (version_at text) (λ (v : ℕ × List ℕ). behind v.0 v.1 >>= λ b. Ok ((v.0, b.0), b.1)) f h) [
        | inl v ↦ in_version text f v
        | inr v ↦ elim (bind_err (behind v.0.0 v.0.1) (λ b. Ok ((v.0.0, b.0), b.1)) f v.2) [
          | inl b ↦ behind_version text v.0 f v.1 b
          | inr b ↦ absurd (not_both ((v.0.0, b.0.0), b.0.1) f b.2)
        ]
      ]
      | inr h ↦ absurd (not_both (envelope_of h.0.0, h.0.1) f h.2)
    ]

-- what was read, where nothing is left
abbrev ended : Sent × List ℕ → Result Sent Fault
ended a = cond (eqb (length a.1) 0) (Ok a.0) (Err TrailingBytes)

pub is_placed : (text : List ℕ) (f : Fault) → decoding text ≡ Err f → IsPlaced text f
unfolding decoding
is_placed text f e =
    elim (chosen (ltb 65536 (length text)) (Err Limit) (envelope_at text >>= ended) (Err f) e) [
      | inl h ↦ inl (late_as {X = Sent} Limit f tt h.1)
      | inr h ↦ elim (bind_err (envelope_at text) ended f h.1) [
        | inl g ↦ in_envelope text f g
        | inr a ↦ elim (chosen (eqb (length a.0.1) 0) (Ok a.0.0) (Err TrailingBytes) (Err f) a.2) [
          | inl k ↦ absurd (not_both a.0.0 f k.1)
          | inr k ↦ inl (late_as {X = Sent} TrailingBytes f tt k.1)
        ]
      ]
    ]
