-- What is read in a list, of bytes or of any numbers, tells how many stood there: as many as spell it.
use Rattle.std.proofs.Common.{◌≡◌, ℕ, zero, suc, ◌+◌, ◌≤◌, Bool, true, false, cond, eqb, ltb, List, [], ◌∷◌, ◌++◌, length, take, drop, Option, Some, None, Result, Ok, Err, refl, sym, ap, subst, ◌∙◌, arith, length-append, inl, inr, ◌⊎◌}
use Rattle.std.specs.Int.{Width, w16, w32, w64, byte_len, from_be_bytes}
use Rattle.std.specs.List.{flat_map}
use Rattle.std.proofs.lemmas.Bool.{eqb-true, ltb-false}
use Rattle.std.proofs.lemmas.List.{take-append-drop, length-take}
use Rattle.scp_types.specs.Statements.{Sent}
use Rattle.scp_types.specs.Trees.{Members, none, Slices}
use Rattle.scp_types.specs.declared.ballot.Ballot.{Ballot}
use Rattle.scp_types.specs.declared.statement.Statement.TheVariants.{Nominate, Prepare, Commit, Externalize}
use Rattle.scp_codec.specs.declared.error.Fault.{Fault}
use Rattle.scp_codec.specs.declared.error.Fault.TheVariants.{Truncated, TrailingBytes, Limit, BadSlices, BadStatement}
use Rattle.scp_codec.specs.Steps.{◌>>=◌, Reads, byte_at, number_at, bytes_at, read_then, unless, read_judged, read_as, read_either}
use Rattle.scp_codec.specs.Spelling.{name, value, ballot, optional, nominated_values, members, slices, body, spelling}
use Rattle.scp_codec.specs.Faults.{version_fault, spare_fault, kind_fault, header_fault, name_fault, length_fault, count_fault, statement_fault}
use Rattle.scp_codec.specs.Parts.{Part, part_names, part_before}
use Rattle.scp_codec.specs.Grammar.{levels_in}
use Rattle.scp_codec.specs.Reading.{envelope_of, name_of, some_or_none, name_at, value_at, ballot_at, optional_at, new_name_at, member_at, member_list_at, header_at, set_with, inner_at, nested_at, slices_at, values_at, nominated_at, nominate_at, prepare_at, commit_at, externalize_at, body_at, statement_at, version_at, kind_at, parts_at, envelope_at, decoding}
use Rattle.scp_codec.proofs.FieldLaws.{bind_ok, passed, passed_true, chosen, ok_is}

-- ---- reading in parts
-- whatever is read, so many numbers were taken from the front
record Measures {X : Type 0} (read : List ℕ → Result (X × List ℕ) Fault) (size : X → ℕ) : Type 0 where
  taken : (text : List ℕ) (x : X × List ℕ) → read text ≡ Ok x → length text ≡ size x.0 + length x.1

module _ {A B : Type 0} {r : List ℕ → Result (A × List ℕ) Fault} {m : A → ℕ} {s : A → List ℕ → Result (B × List ℕ) Fault} {n : A → B → ℕ}
    (first : Measures r m) (second : (a : A) → Measures (s a) (n a)) where
  abbrev more : A × List ℕ → Result ((A × B) × List ℕ) Fault
  more a = s a.0 a.1 >>= λ b. Ok ((a.0, b.0), b.1)

  summed : (t u v p q : ℕ) → t ≡ p + u → u ≡ q + v → t ≡ p + q + v
  summed t u v p q h k = omega arith

  measures-then : Measures (read_then r s) (λ x. m x.0 + n x.0 x.1)
  measures-then = record {
    taken = λ text x e.
        let a = bind_ok (r text) more x e in
        let b = bind_ok (s a.0.0 a.0.1) (λ b. Ok ((a.0.0, b.0), b.1)) x a.2 in
        let p = first.taken text a.0 a.1 in
        let q = (second a.0.0).taken a.0.1 b.0 b.1 in
        let made : (A × B) × List ℕ = ((a.0.0, b.0.0), b.0.1) in
        subst (λ (y : (A × B) × List ℕ). length text ≡ m y.0.0 + n y.0.0 y.0.1 + length y.1) (ok_is made x b.2) (summed (length text) (length a.0.1) (length b.0.1) (m a.0.0) (n a.0.0 b.0.0) p q);
  }

-- what is judged is what was read
stands : {A : Type 0} (j : Option Fault) (a x : A) → unless j a ≡ Ok x → a ≡ x
stands None a x e = ok_is a x e
stands (Some g) a x e = absurd cc

module _ {A : Type 0} {r : List ℕ → Result (A × List ℕ) Fault} {m : A → ℕ} (part : Measures r m) where
  measures-judged : (judge : A → Option Fault) → Measures (read_judged r judge) m
  measures-judged judge = record {
    taken = λ text x e.
        let a = bind_ok (r text) (λ (b : A × List ℕ). unless (judge b.0) b) x e in
        subst (λ (y : A × List ℕ). length text ≡ m y.0 + length y.1) (stands (judge a.0.0) a.0 x a.2) (part.taken text a.0 a.1);
  }

  measures-as : {B : Type 0} (to : A → B) (n : B → ℕ) → ((a : A) → m a ≡ n (to a)) → Measures (read_as r to) n
  measures-as {B} to n same = record {
    taken = λ text x e.
        let a = bind_ok (r text) (λ (b : A × List ℕ). Ok (to b.0, b.1)) x e in
        subst (λ (y : B × List ℕ). length text ≡ n y.0 + length y.1) (ok_is (to a.0.0, a.0.1) x a.2) (subst (λ (k : ℕ). length text ≡ k + length a.0.1) (same a.0.0) (part.taken text a.0 a.1));
  }

-- one more than the one or the other
abbrev either : {A B : Type 0} → (A → ℕ) → (B → ℕ) → A ⊎ B → ℕ
either m n (inl a) = suc (m a)
either m n (inr b) = suc (n b)

measures-byte : Measures byte_at (λ n. 1)
measures-byte = record { taken = taken }
  where
    taken : (text : List ℕ) (x : ℕ × List ℕ) → byte_at text ≡ Ok x → length text ≡ 1 + length x.1
    taken [] x e = absurd cc
    taken (b ∷ rest) x e = subst (λ (y : ℕ × List ℕ). length (b ∷ rest) ≡ 1 + length y.1) (ok_is (b, rest) x e) (omega arith)

module _ {A B : Type 0} {r : List ℕ → Result (A × List ℕ) Fault} {m : A → ℕ} {s : List ℕ → Result (B × List ℕ) Fault} {n : B → ℕ}
    (left : Measures r m) (right : Measures s n) (i j : ℕ) (fault : Fault) where
  abbrev as_left : A × List ℕ → Result ((A ⊎ B) × List ℕ) Fault
  as_left a = Ok (inl a.0, a.1)

  abbrev as_right : B × List ℕ → Result ((A ⊎ B) × List ℕ) Fault
  as_right b = Ok (inr b.0, b.1)

  abbrev by_tag : ℕ × List ℕ → Result ((A ⊎ B) × List ℕ) Fault
  by_tag tag = cond (eqb tag.0 i) (r tag.1 >>= as_left) (cond (eqb tag.0 j) (s tag.1 >>= as_right) (Err fault))

  behind : (t u v p : ℕ) → t ≡ 1 + u → u ≡ p + v → t ≡ suc p + v
  behind t u v p h k = omega arith

  measures-either : Measures (read_either i r j s fault) (either m n)
  measures-either = record {
    taken = λ text x e.
        let t = bind_ok (byte_at text) by_tag x e in
        let p = measures-byte.taken text t.0 t.1 in
        elim (chosen (eqb t.0.0 i) (r t.0.1 >>= as_left) (cond (eqb t.0.0 j) (s t.0.1 >>= as_right) (Err fault)) (Ok x) t.2) [
          | inl h ↦
              let a = bind_ok (r t.0.1) as_left x h.1 in
              let q = left.taken t.0.1 a.0 a.1 in
              subst (λ (y : (A ⊎ B) × List ℕ). length text ≡ either m n y.0 + length y.1) (ok_is (inl a.0.0, a.0.1) x a.2) (behind (length text) (length t.0.1) (length a.0.1) (m a.0.0) p q)
          | inr h ↦
              let g = passed_true (eqb t.0.0 j) fault (s t.0.1 >>= as_right) x h.1 in
              let b = bind_ok (s t.0.1) as_right x g.1 in
              let q = right.taken t.0.1 b.0 b.1 in
              subst (λ (y : (A ⊎ B) × List ℕ). length text ≡ either m n y.0 + length y.1) (ok_is (inr b.0.0, b.0.1) x b.2) (behind (length text) (length t.0.1) (length b.0.1) (n b.0.0) p q)
        ];
  }

-- one of two, as a test says
measures-if : {A : Type 0} {r : List ℕ → Result (A × List ℕ) Fault} {s : List ℕ → Result (A × List ℕ) Fault} {m : A → ℕ} (b : Bool) → Measures r m → Measures s m
    → Measures (λ text. cond b (r text) (s text)) m
measures-if true p q = p
measures-if false p q = q

-- ---- the smallest parts
dropped : (n : ℕ) (text : List ℕ) → length text ≡ length (take n text) + length (drop n text)
dropped n text = ap length (sym (take-append-drop n text)) ∙ length-append (take n text) (drop n text)

measures-bytes : (n : ℕ) → Measures (bytes_at n) length
measures-bytes n = record {
  taken = λ text x e.
      let g = passed (ltb (length text) n) Truncated (Ok (take n text, drop n text)) x e in
      subst (λ (y : List ℕ × List ℕ). length text ≡ length y.0 + length y.1) (ok_is (take n text, drop n text) x g.1) (dropped n text);
}

measures-number : (w : Width) → Measures (number_at w) (λ n. byte_len w)
measures-number w = record {
  taken = λ text x e.
      let g = passed (ltb (length text) (byte_len w)) Truncated (Ok (from_be_bytes w (take (byte_len w) text), drop (byte_len w) text)) x e in
      let long : byte_len w ≤ length text = ltb-false _ _ g.0 in
      subst (λ (y : ℕ × List ℕ). length text ≡ byte_len w + length y.1) (ok_is (from_be_bytes w (take (byte_len w) text), drop (byte_len w) text) x g.1)
      (omega (arith, dropped (byte_len w) text, length-take (byte_len w) text, long));
}

-- nothing is taken where what is read is there before
measures-none : {A : Type 0} (a : A) (m : A → ℕ) → m a ≡ 0 → Measures (λ text. Ok (a, text)) m
measures-none {A} a m h = record { taken = λ text x e. subst (λ (y : A × List ℕ). length text ≡ m y.0 + length y.1) (ok_is (a, text) x e) (same (length text) (m a) h) }
  where
    same : (n k : ℕ) → k ≡ 0 → n ≡ k + n
    same n k h = omega arith

-- ---- names, values and ballots
length-name : (u : ℕ) → length (name u) ≡ 32
unfolding name
length-name u = refl

measures-name : Measures name_at (λ u. length (name u))
unfolding name_at
measures-name =
    measures-as (measures-then (measures-number w64) (λ a. measures-then (measures-number w64) (λ b. measures-then (measures-number w64) (λ c. measures-number w64)))) name_of (λ u. length (name u)) (λ x. sym (length-name (name_of x)))

measures-value : Measures value_at (λ v. length (value v))
unfolding value_at
measures-value =
    measures-as (measures-then (measures-judged (measures-number w16) length_fault) measures-bytes) (λ x. x.1) (λ v. length (value v)) (λ x. omega arith)

measures-ballot : Measures ballot_at (λ b. length (ballot b))
unfolding ballot_at
measures-ballot =
    measures-as (measures-then (measures-number w32) (λ c. measures-value)) (λ x. record { counter = x.0; value = x.1 }) (λ b. length (ballot b)) (λ x. omega arith)

measures-optional : Measures optional_at (λ o. length (optional o))
unfolding optional_at
measures-optional =
    measures-as (measures-either (measures-none (tt {0}) (λ u. 0) refl) measures-ballot 0 1 BadStatement) some_or_none (λ o. length (optional o)) same
  where
    same : (x : Unit {0} ⊎ Ballot) → either (λ u. 0) (λ b. length (ballot b)) x ≡ length (optional (some_or_none x))
    same (inl u) = refl
    same (inr b) = omega arith

-- ---- slices
-- a member is spelled before others
length-put : (x : Part × Members) → either (λ u. length (name u)) (λ q. length (slices q)) x.0 + length (members x.1) ≡ length (members (part_before x.0 x.1))
length-put (inl u, ms) = omega (arith, length-append (name u) (members ms))
length-put (inr q, ms) = omega (arith, length-append (members q.members) (members ms))

measures-members : (set_of : List ℕ → Reads Slices) → ((seen : List ℕ) → Measures (set_of seen) (λ q. length (slices q))) → (n : ℕ) (seen : List ℕ)
    → Measures (member_list_at set_of n seen) (λ ms. length (members ms))
unfolding member_list_at member_at new_name_at
measures-members set_of inside zero seen = measures-none none (λ ms. length (members ms)) refl
measures-members set_of inside (suc n) seen =
    measures-as (measures-then (measures-either (measures-judged measures-name (name_fault seen)) (inside seen) 0 1 BadSlices) (λ m. measures-members set_of inside n (seen ++ part_names m))) (λ x. part_before x.0 x.1) (λ ms. length (members ms)) length-put

measures-set : (set_of : List ℕ → Reads Slices) → ((seen : List ℕ) → Measures (set_of seen) (λ q. length (slices q))) → (seen : List ℕ) → Measures (set_with set_of seen) (λ q. length (slices q))
unfolding set_with header_at
measures-set set_of inside seen =
    measures-as (measures-then (measures-judged (measures-then measures-byte (λ k. measures-byte)) header_fault) (λ h. measures-members set_of inside h.1 seen)) (λ x. record { threshold = x.0.0; members = x.1 }) (λ q. length (slices q)) (λ x. omega arith)

measures-inner : (levels : ℕ) (seen : List ℕ) → Measures (inner_at levels seen) (λ q. length (slices q))
unfolding inner_at
measures-inner zero seen = record { taken = λ text x e. absurd (no_err x BadSlices e) }
  where
    no_err : (x : Slices × List ℕ) (d : Fault) → Err d ≡ Ok x → ⊥
    no_err x d e = cc
measures-inner (suc levels) seen = measures-set (inner_at levels) (measures-inner levels) seen

measures-slices : (v : ℕ) → Measures (slices_at v) (λ q. length (slices q))
unfolding slices_at nested_at
measures-slices v = measures-judged (measures-set (inner_at (levels_in v)) (measures-inner (levels_in v)) []) (spare_fault v)

-- ---- statements
measures-values : (n : ℕ) → Measures (values_at n) (λ vs. length (flat_map value vs))
unfolding values_at
measures-values zero = measures-none [] (λ vs. length (flat_map value vs)) refl
measures-values (suc n) =
    measures-as (measures-then measures-value (λ v. measures-values n)) (λ x. x.0 ∷ x.1) (λ vs. length (flat_map value vs)) (λ x. sym (length-append (value x.0) (flat_map value x.1)))

measures-nominated : Measures nominated_at (λ vs. length (nominated_values vs))
unfolding nominated_at
measures-nominated =
    measures-as (measures-then (measures-judged measures-byte count_fault) measures-values) (λ x. x.1) (λ vs. length (nominated_values vs)) (λ x. omega arith)

measures-nominate : Measures nominate_at (λ s. length (body s))
unfolding nominate_at
measures-nominate =
    measures-as (measures-then measures-nominated (λ v. measures-nominated)) (λ x. Nominate x.0 x.1) (λ s. length (body s)) (λ x. sym (length-append (nominated_values x.0) (nominated_values x.1)))

measures-prepare : Measures prepare_at (λ s. length (body s))
unfolding prepare_at
measures-prepare =
    measures-as (measures-then measures-ballot (λ b. measures-then measures-optional (λ p. measures-then (measures-number w32) (λ a. measures-then (measures-number w32) (λ h. measures-number w32))))) (λ x. Prepare x.0 x.1.0 x.1.1.0 x.1.1.1.0 x.1.1.1.1) (λ s. length (body s)) (λ x. simp length-append (omega arith))

measures-commit : Measures commit_at (λ s. length (body s))
unfolding commit_at
measures-commit =
    measures-as (measures-then measures-ballot (λ b. measures-then (measures-number w32) (λ p. measures-then (measures-number w32) (λ h. measures-number w32)))) (λ x. Commit x.0 x.1.0 x.1.1.0 x.1.1.1) (λ s. length (body s)) (λ x. simp length-append (omega arith))

measures-externalize : Measures externalize_at (λ s. length (body s))
unfolding externalize_at
measures-externalize =
    measures-as (measures-then measures-ballot (λ b. measures-number w32)) (λ x. Externalize x.0 x.1) (λ s. length (body s)) (λ x. simp length-append (omega arith))

measures-body : (k : ℕ) → Measures (body_at k) (λ s. length (body s))
unfolding body_at
measures-body k = measures-if (eqb k 1) measures-nominate (measures-if (eqb k 2) measures-prepare (measures-if (eqb k 3) measures-commit measures-externalize))

measures-statement : (k : ℕ) → Measures (statement_at k) (λ s. length (body s))
unfolding statement_at
measures-statement k = measures-judged (measures-body k) statement_fault

-- ---- envelopes
measures-envelope : Measures envelope_at (λ e. length (spelling e))
unfolding envelope_at version_at kind_at parts_at
measures-envelope =
    measures-as (measures-then (measures-judged measures-byte version_fault) (λ v. measures-then (measures-judged measures-byte kind_fault) (λ k. measures-then measures-name (λ u. measures-then (measures-number w64) (λ n. measures-then (measures-slices v) (λ q. measures-statement k))))))
    envelope_of (λ e. length (spelling e)) (λ x. simp length-append (omega arith))

-- what was read, where nothing is left
abbrev ended : Sent × List ℕ → Result Sent Fault
ended a = cond (eqb (length a.1) 0) (Ok a.0) (Err TrailingBytes)

-- whatever is read as an envelope is as long as its spelling
pub length_is : (text : List ℕ) (e : Sent) → decoding text ≡ Ok e → length text ≡ length (spelling e)
unfolding decoding
length_is text e h =
    let g = passed (ltb 65536 (length text)) Limit (envelope_at text >>= ended) e h in
    let a = bind_ok (envelope_at text) ended e g.1 in
    let p = measures-envelope.taken text a.0 a.1 in
    let k = passed_true (eqb (length a.0.1) 0) TrailingBytes (Ok a.0.0) e a.2 in
    let ends : length a.0.1 ≡ 0 = eqb-true (length a.0.1) 0 k.0 in
    subst (λ (d : Sent). length text ≡ length (spelling d)) (ok_is a.0.0 e k.1) (omega (arith, p, ends))
