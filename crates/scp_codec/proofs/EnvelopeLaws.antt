-- The laws of whole envelopes and whole texts.
use Rattle.std.proofs.Common.{◌≡◌, ◌≢◌, ℕ, ◌<◌, ◌≤◌, Bool, true, false, cond, eqb, eq-eqb, ltb, nat_le, if◌then◌else◌, List, [], ◌∷◌, ◌++◌, length, Some, None, Result, Ok, Err, refl, sym, ap, subst, ◌∙◌, append_assoc, arith, inl, inr}
use Rattle.std.specs.Int.{w64, to_be_bytes}
use Rattle.std.proofs.lemmas.Bool.{ltb-false, ltb-true, le-ltb, eqb-true}
use Rattle.std.proofs.lemmas.Bool.Decides.{nat_tests}
use Rattle.std.proofs.lemmas.List.{append-nil, nil_from_length}
use Rattle.scp_codec.specs.declared.error.Fault.{Fault}
use Rattle.scp_codec.specs.declared.error.Fault.TheVariants.{Truncated, TrailingBytes, Version, Kind, Limit, SpareVersion}
use Rattle.scp_types.specs.Trees.{Slices, depth_of, IsName, IsNested}
use Rattle.scp_types.proofs.StatementRules.{keeps_rules}
use Rattle.scp_types.specs.declared.statement.Statement.{Statement}
use Rattle.scp_types.specs.declared.statement.Statement.TheVariants.{Nominate, Prepare, Commit, Externalize}
use Rattle.scp_types.specs.Statements.{Sent, IsEnvelope, IsWellFormed, HasWidths}
use Rattle.scp_codec.specs.Formats.{ValidThen, ValidJudged}
use Rattle.scp_codec.specs.Faults.{version_fault, kind_fault, statement_fault, HasOtherVersion, HasOtherKind}
use Rattle.scp_codec.specs.Steps.{◌>>=◌}
use Rattle.scp_codec.specs.Spelling.{byte, name, slices, body, kind, first_levels, version_of, spelling, Spells, HasOneSpelling}
use Rattle.scp_codec.specs.Reading.{Fields, envelope_of, version_at, kind_at, parts_at, envelope_at, decoding}
use Rattle.scp_codec.specs.Grammar.{HasFields, HasKind, IsLong, IsInVersion, levels_in, IsVersion, ShowsVersion, IsKind, ShowsKind, ShowsFault, BreaksOff, IsFault, HasOneAnswer}
use Rattle.scp_codec.proofs.FieldLaws.{IsBytes, ok_is, bind_ok, done, passed, passed_true, chosen}
use Rattle.scp_codec.proofs.FormatLaws.{ValidAs, bind_err, err_is, Laws, Laws-then, Laws-judged, Laws-as, Laws-when, Laws-byte}
use Rattle.scp_codec.proofs.NameLaws.{Laws-name, Laws-long}
use Rattle.scp_codec.proofs.TreeLaws.{Laws-slices, never_cut, none_cut}
use Rattle.scp_codec.proofs.BodyLaws.{Laws-statement, statement_stands, well_formed_stands}
use Rattle.scp_codec.proofs.Lengths.{spelling_is_short}

-- ---- envelopes
version_cut : (v : ℕ) → version_fault v ≢ Some Truncated
version_cut v = cut (eqb v 1) (eqb v 2)
  where
    other : Version ≢ Truncated
    other e = cc

    cut : (a b : Bool) → cond a None (cond b None (Some Version)) ≢ Some Truncated
    cut true b = none_cut
    cut false true = none_cut
    cut false false = never_cut true Version None other none_cut

Laws-version : Laws version_at byte IsVersion ShowsVersion
unfolding version_at
Laws-version = Laws-judged Laws-byte version_fault version_cut

kind_cut : (k : ℕ) → kind_fault k ≢ Some Truncated
kind_cut k = never_cut (eqb k 0) Kind _ other (never_cut (ltb 4 k) Kind None other none_cut)
  where
    other : Kind ≢ Truncated
    other e = cc

Laws-kind : Laws kind_at byte IsKind ShowsKind
unfolding kind_at
Laws-kind = Laws-judged Laws-byte kind_fault kind_cut

abbrev IsFields : Fields → Type 0
IsFields = ValidThen IsVersion (λ v. ValidThen IsKind (λ k. ValidThen IsName (λ u. ValidThen IsLong (λ n. ValidThen (IsInVersion v) (λ q. ValidJudged (HasKind k) statement_fault)))))

version_is : (v : ℕ) (q : Slices) → IsInVersion v q → v ≡ version_of q
version_is v q h = one (eqb v (version_of q)) refl h.1
  where
    one : (b : Bool) → eqb v (version_of q) ≡ b → cond b None (Some SpareVersion) ≡ None → v ≡ version_of q
    one true e h = eqb-true v (version_of q) e
    one false e h = absurd cc

spelled : (x : Fields) → IsFields x → spelling (envelope_of x) ≡ (x.0 ∷ []) ++ ((x.1.0 ∷ []) ++ (name x.1.1.0 ++ (to_be_bytes w64 x.1.1.1.0 ++ (slices x.1.1.1.1.0 ++ body x.1.1.1.1.1))))
spelled x v =
    let rest = name x.1.1.0 ++ (to_be_bytes w64 x.1.1.1.0 ++ (slices x.1.1.1.1.0 ++ body x.1.1.1.1.1)) in
    ap (λ (t : List ℕ). version_of x.1.1.1.1.0 ∷ kind x.1.1.1.1.1 ∷ t) (three (name x.1.1.0) (to_be_bytes w64 x.1.1.1.0) (slices x.1.1.1.1.0) (body x.1.1.1.1.1))
    ∙ ap (λ (k : ℕ). version_of x.1.1.1.1.0 ∷ k ∷ rest) v.1.1.1.1.1.0.0
    ∙ ap (λ (k : ℕ). k ∷ x.1.0 ∷ rest) (sym (version_is x.0 x.1.1.1.1.0 v.1.1.1.1.0))
  where
    three : (a b c d : List ℕ) → a ++ b ++ c ++ d ≡ a ++ (b ++ (c ++ d))
    three a b c d = simp append_assoc

pub Laws-fields : Laws envelope_at spelling (ValidAs IsFields envelope_of) ShowsFault
unfolding envelope_at parts_at
Laws-fields =
    Laws-as (Laws-then Laws-version (λ v h. Laws-then Laws-kind (λ k g. Laws-then Laws-name (λ u p. Laws-then Laws-long (λ n q. Laws-then (Laws-slices v) (λ s r. Laws-statement k g)))))) envelope_of spelling spelled

has_widths : (s : Statement) → HasFields s → HasWidths s
has_widths (Nominate v a) h = (h.0.1, h.1.1)
has_widths (Prepare b p x y z) h = h
has_widths (Commit b x y z) h = h
has_widths (Externalize b x) h = h

has_fields : (s : Statement) → HasWidths s → IsWellFormed s → HasFields s
has_fields (Nominate v a) h r = ((r.voted_set.few, h.0), (r.accepted_set.few, h.1))
has_fields (Prepare b p x y z) h r = h
has_fields (Commit b x y z) h r = h
has_fields (Externalize b x) h r = h

is_envelope : (e : Sent) → ValidAs IsFields envelope_of e → IsEnvelope e
is_envelope e v =
    let s = v.0.1.1.1.1.1 in
    let f = v.1.1.1.1 in
    subst IsEnvelope v.2 (record {
      sender = v.1.1.1.0;
      slot = f.0;
      slices = f.1.0.0.0;
      widths = has_widths s f.1.1.0.1;
      rules = keeps_rules s (statement_stands s f.1.1.1);
    })

kind_of : (s : Statement) → IsKind (kind s)
kind_of (Nominate v a) = (tt, refl)
kind_of (Prepare b p x y z) = (tt, refl)
kind_of (Commit b x y z) = (tt, refl)
kind_of (Externalize b x) = (tt, refl)

version_stands : (q : Slices) → IsVersion (version_of q)
version_stands q = go (nat_le (depth_of q.members) first_levels)
  where
    go : (b : Bool) → IsVersion (if b then 1 else 2)
    go true = (tt, refl)
    go false = (tt, refl)

in_version : (q : Slices) → IsNested q → IsInVersion (version_of q) q
in_version q h = ((h, go (nat_le (depth_of q.members) first_levels) refl), rw (eq-eqb (version_of q) (version_of q) refl) refl)
  where
    few : (n : ℕ) → nat_le n 2 ≡ true → n ≤ 2
    few n e = grind (arith, nat_tests)

    go : (b : Bool) → nat_le (depth_of q.members) first_levels ≡ b → depth_of q.members ≤ levels_in (if b then 1 else 2)
    go true e = few (depth_of q.members) e
    go false e = h.levels

from_envelope : (e : Sent) → IsEnvelope e → ValidAs IsFields envelope_of e
from_envelope e h =
    ((version_of e.slices, (kind e.body, (e.sender, (e.slot, (e.slices, e.body))))), (version_stands e.slices, (kind_of e.body, (h.sender, (h.slot, (in_version e.slices h.slices, ((refl, has_fields e.body h.widths h.rules), well_formed_stands e.body h.rules)))))), refl)

pub Laws-envelope : Laws envelope_at spelling IsEnvelope ShowsFault
Laws-envelope = Laws-when Laws-fields IsEnvelope is_envelope from_envelope

-- ---- faults that show before memory is asked for
pub other_version : (bytes : List ℕ) → HasOtherVersion bytes → version_at bytes ≡ Err Version
unfolding version_at
other_version [] h = absurd h
other_version (v ∷ rest) h = rw h refl

pub version_before_kind : (bytes : List ℕ) → HasOtherKind bytes → (v : ℕ) × (rest : List ℕ) × (version_at bytes ≡ Ok (v, rest)) × (kind_at rest ≡ Err Kind)
unfolding version_at kind_at
version_before_kind [] h = absurd h
version_before_kind (v ∷ []) h = absurd h
version_before_kind (v ∷ k ∷ rest) h = (v, k ∷ rest, rw h.0 refl, rw h.1 refl)

pub other_kind : (bytes rest : List ℕ) (v : ℕ) → HasOtherKind bytes → version_at bytes ≡ Ok (v, rest) → kind_at rest ≡ Err Kind
other_kind bytes rest v h e =
    let p = version_before_kind bytes h in
    let same : (p.0, p.1) ≡ (v, rest) = ok_is (p.0, p.1) (v, rest) (sym p.2 ∙ e) in
    subst (λ (x : ℕ × List ℕ). kind_at x.1 ≡ Err Kind) same p.3

pub kind_is_refused : (bytes rest : List ℕ) (v : ℕ) (x : ℕ × List ℕ) → HasOtherKind bytes → version_at bytes ≡ Ok (v, rest) → kind_at rest ≡ Ok x → ⊥
kind_is_refused bytes rest v x h e k = not_err x (sym k ∙ other_kind bytes rest v h e)
  where
    not_err : (x : ℕ × List ℕ) → done x ≡ Err Kind → ⊥
    not_err x e = cc

pub no_version_fault : (bytes : List ℕ) (f : Fault) → HasOtherKind bytes → version_at bytes ≡ Err f → ⊥
no_version_fault bytes f h e =
    let p = version_before_kind bytes h in
    not_err (p.0, p.1) f (sym p.2 ∙ e)
  where
    not_err : (x : ℕ × List ℕ) (f : Fault) → done x ≡ Err f → ⊥
    not_err x f e = cc

-- ---- whole texts
abbrev ended : Sent × List ℕ → Result Sent Fault
ended e = cond (eqb (length e.1) 0) (Ok e.0) (Err TrailingBytes)

pub is_spelled : (bytes : List ℕ) (e : Sent) → IsBytes bytes → decoding bytes ≡ Ok e → Spells bytes e
unfolding decoding
is_spelled bytes e fits h =
    let g = passed (ltb 65536 (length bytes)) Limit (envelope_at bytes >>= ended) e h in
    let a = bind_ok (envelope_at bytes) ended e g.1 in
    let p = Laws-envelope.takes bytes a.0 fits a.1 in
    let k = passed_true (eqb (length a.0.1) 0) TrailingBytes (Ok a.0.0) e a.2 in
    let none : a.0.1 ≡ [] = nil_from_length a.0.1 (eqb-true (length a.0.1) 0 k.0) in
    let whole : bytes ≡ spelling a.0.0 = p.0.parts ∙ ap (λ (t : List ℕ). spelling a.0.0 ++ t) none ∙ append-nil (spelling a.0.0) in
    subst (Spells bytes) (ok_is a.0.0 e k.1) (record { envelope = p.1; text = whole })

pub is_read : (bytes : List ℕ) (e : Sent) → Spells bytes e → decoding bytes ≡ Ok e
unfolding decoding
is_read bytes e h =
    let short : ltb 65536 (length bytes) ≡ false = le-ltb _ _ (omega (arith, ap length h.text, spelling_is_short e h.envelope)) in
    let text : bytes ≡ spelling e ++ [] = h.text ∙ sym (append-nil (spelling e)) in
    let read : envelope_at bytes ≡ Ok (e, []) = ap envelope_at text ∙ Laws-envelope.again e [] h.envelope in
    rw (short, read) refl

trailing : (a : Sent × List ℕ) (f : Fault) (b : Bool) → eqb (length a.1) 0 ≡ b → cond b (Ok a.0) (Err TrailingBytes) ≡ Err f → (0 < length a.1) × (f ≡ TrailingBytes)
trailing a f true e h = absurd (no_ok a.0 f h)
  where
    no_ok : (x : Sent) (d : Fault) → Ok x ≡ Err d → ⊥
    no_ok x d e = cc
trailing a f false e h = (some (length a.1) e, sym (err_is {A = Sent} TrailingBytes f (Err TrailingBytes) refl h))
  where
    some : (n : ℕ) → eqb n 0 ≡ false → 0 < n
    some n e = grind (arith, nat_tests)

read_one_way : (bytes : List ℕ) (f : Fault) (e : Sent) (rest : List ℕ) → envelope_at bytes ≡ Err f → bytes ≡ spelling e ++ rest → IsEnvelope e → ⊥
read_one_way bytes f e rest err text valid = no (envelope_at bytes) f (e, rest) err (ap envelope_at text ∙ Laws-envelope.again e rest valid)
  where
    no : (r : Result (Sent × List ℕ) Fault) (f : Fault) (x : Sent × List ℕ) → r ≡ Err f → r ≡ Ok x → ⊥
    no (Ok y) f x p q = cc
    no (Err d) f x p q = cc

breaks_off : (bytes : List ℕ) (f : Fault) → envelope_at bytes ≡ Err f → f ≡ Truncated → BreaksOff bytes
breaks_off bytes f err t =
    (λ g d. Laws-envelope.never d.0 g d.3 (sym (err_is {A = Sent × List ℕ} f g (envelope_at bytes) err (ap envelope_at d.2 ∙ Laws-envelope.shown d.0 d.1 g d.3)) ∙ t), λ rest d. read_one_way bytes f d.0 rest err d.2 d.1)

pub is_fault : (bytes : List ℕ) (f : Fault) → IsBytes bytes → decoding bytes ≡ Err f → IsFault bytes f
unfolding decoding
is_fault bytes f fits h =
    elim (chosen (ltb 65536 (length bytes)) (Err Limit) (envelope_at bytes >>= ended) (Err f) h) [
      | inl g ↦ inl (ltb-true _ _ g.0, sym (err_is {A = Sent} Limit f (Err Limit) refl g.1))
      | inr g ↦
          let short : length bytes ≤ 65536 = ltb-false _ _ g.0 in
          elim (bind_err (envelope_at bytes) ended f g.1) [
            | inl err ↦ elim (Laws-envelope.fails bytes f fits err) [
              | inl t ↦ inr (short, inr (inr (breaks_off bytes f err t, t)))
              | inr d ↦ inr (short, inl (d.front, d.rest, d.parts, d.shows))
            ]
            | inr a ↦
                let p = Laws-envelope.takes bytes a.0 fits a.1 in
                let q = trailing a.0 f (eqb (length a.0.1) 0) refl a.2 in
                inr (short, inr (inl ((a.0.1, (a.0.0, p.1, p.0.parts), q.0), q.1)))
          ]
    ]

-- ---- a fault of a text is what reading it gives, so a text has one fault at most
over : (n : ℕ) → 65536 < n → ltb 65536 n ≡ true
over n h = grind (arith, nat_tests)

not_empty : (n : ℕ) → 0 < n → eqb n 0 ≡ false
not_empty n h = grind (arith, nat_tests)

ends_inside : (bytes : List ℕ) → IsBytes bytes → BreaksOff bytes → (r : Result (Sent × List ℕ) Fault) → envelope_at bytes ≡ r → r ≡ Err Truncated
ends_inside bytes fits off (Ok x) e =
    let p = Laws-envelope.takes bytes x fits e in absurd (off.1 x.1 (x.0, p.1, p.0.parts))
ends_inside bytes fits off (Err g) e =
    elim (Laws-envelope.fails bytes g fits e) [
      | inl t ↦ ap (λ (h : Fault). Err h) t
      | inr d ↦ absurd (off.0 g (d.front, d.rest, d.parts, d.shows))
    ]

pub fault_is : (bytes : List ℕ) (f : Fault) → IsBytes bytes → IsFault bytes f → decoding bytes ≡ Err f
unfolding decoding
fault_is bytes f fits (inl h) = rw (over (length bytes) h.0, h.1) refl
fault_is bytes f fits (inr (short, inl d)) =
    rw (le-ltb _ _ short, ap envelope_at d.2 ∙ Laws-envelope.shown d.0 d.1 f d.3) refl
fault_is bytes f fits (inr (short, inr (inl (d, e)))) =
    let read : envelope_at bytes ≡ Ok (d.1.0, d.0) = ap envelope_at d.1.2 ∙ Laws-envelope.again d.1.0 d.0 d.1.1 in
    rw (le-ltb _ _ short, read, not_empty (length d.0) d.2, e) refl
fault_is bytes f fits (inr (short, inr (inr (off, e)))) =
    rw (le-ltb _ _ short, ends_inside bytes fits off (envelope_at bytes) refl, e) refl

-- ---- one spelling
pub one_spelling : (e : Sent) → IsEnvelope e → HasOneSpelling e
one_spelling e h =
    let spelled : Spells (spelling e) e = record { envelope = h; text = refl } in
    record {
      spelled = spelled;
      short = spelling_is_short e h;
      no_other = λ bytes s. s.text;
      of_no_other = λ d s. ok_is d e (sym (is_read (spelling e) d s) ∙ is_read (spelling e) e spelled);
    }

-- ---- one answer
not_both : (e : Sent) (f : Fault) → Ok e ≡ Err f → ⊥
not_both e f h = cc

answered : (text : List ℕ) → IsBytes text → (r : Result Sent Fault) → decoding text ≡ r → HasOneAnswer text
answered text fits (Ok e) h = inl (
  e,
  record {
    spelled = is_spelled text e fits h;
    no_other = λ d s. ok_is d e (sym (is_read text d s) ∙ h);
    no_fault = λ f g. not_both e f (sym h ∙ fault_is text f fits g);
  },
)
answered text fits (Err f) h = inr (
  f,
  record {
    shown = is_fault text f fits h;
    no_other = λ g d. err_is {A = Sent} g f (decoding text) (fault_is text g fits d) h;
    not_spelled = λ e s. not_both e f (sym (is_read text e s) ∙ h);
  },
)

pub one_answer : (text : List ℕ) → IsBytes text → HasOneAnswer text
one_answer text fits = answered text fits (decoding text) refl
