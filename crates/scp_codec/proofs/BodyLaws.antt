-- The laws of values, ballots and statements.
use Rattle.std.proofs.Common.{◌≡◌, ◌≢◌, ℕ, zero, suc, ◌^◌, ◌<◌, ◌≤◌, Bool, true, false, cond, eqb, ltb, List, [], ◌∷◌, ◌++◌, length, Option, Some, None, Result, Ok, Err, refl, sym, ap, subst, append_assoc, arith, inl, inr, ◌⊎◌}
use Rattle.std.specs.Int.{w16, w32, to_be_bytes}
use Rattle.std.specs.List.{flat_map, AllByRecursion}
use Rattle.std.proofs.lemmas.Bool.{ltb-false, le-ltb}
use Rattle.std.proofs.lemmas.Bool.Decides.{nat_tests}
use Rattle.scp_codec.specs.declared.error.Fault.{Fault}
use Rattle.scp_codec.specs.declared.error.Fault.TheVariants.{Truncated, Limit, BadStatement}
use Rattle.scp_types.specs.declared.ballot.Ballot.{Ballot}
use Rattle.scp_types.specs.declared.statement.Statement.{Statement}
use Rattle.scp_types.specs.declared.statement.Statement.TheVariants.{Nominate, Prepare, Commit, Externalize}
use Rattle.scp_types.specs.Nominations.{IsValue}
use Rattle.scp_types.specs.Statements.{IsBallot, IsWellFormed, is_well_formed}
use Rattle.scp_types.proofs.StatementRules.{keeps_rules, passes_test}
use Rattle.scp_codec.specs.Formats.{NoFault, ValidThen, ValidJudged, text_either}
use Rattle.scp_codec.specs.Faults.{length_fault, count_fault, statement_fault}
use Rattle.scp_codec.specs.Steps.{number_at}
use Rattle.scp_codec.specs.Spelling.{value, ballot, optional, nominated_values, body, kind}
use Rattle.scp_codec.specs.Reading.{some_or_none, value_at, ballot_at, optional_at, values_at, nominated_at, nominate_at, prepare_at, commit_at, externalize_at, body_at, statement_at}
use Rattle.scp_codec.specs.Grammar.{IsWord, ShowsValue, ShowsBallot, ShowsOptional, IsOptional, ShowsValues, ShowsNominated, AreNominated, HasFields, HasKind, ShowsNominate, ShowsPrepare, ShowsBody, ShowsStatement, IsKind}
use Rattle.scp_codec.proofs.FieldLaws.{Takes, ok_is, wide16, wide32}
use Rattle.scp_codec.proofs.FormatLaws.{ValidAs, ValidEither, ValidIf, Laws, Laws-then, Laws-quiet, Laws-judged, Laws-as, Laws-when, Laws-either, Laws-byte, Laws-empty, Laws-bytes, Laws-number, Laws-if}
use Rattle.scp_codec.proofs.TreeLaws.{cleared, never_cut, none_cut, limit_cut}

Laws-word : Laws (number_at w32) (to_be_bytes w32) IsWord NoFault
Laws-word = Laws-number w32 (2 ^ 32) wide32

bad_statement_cut : BadStatement ≢ Truncated
bad_statement_cut e = cc

some : (n : ℕ) → eqb n 0 ≡ false → 0 < n
some n e = grind (arith, nat_tests)

not_zero : (n : ℕ) → 0 < n → eqb n 0 ≡ false
not_zero n h = grind (arith, nat_tests)

-- ---- values and ballots
length_cut : (n : ℕ) → length_fault n ≢ Some Truncated
length_cut n = never_cut (eqb n 0) Limit _ limit_cut (never_cut (ltb 256 n) Limit None limit_cut none_cut)

length_is : (n : ℕ) → length_fault n ≡ None → (0 < n) × (n ≤ 256)
length_is n e =
    let a = cleared (eqb n 0) Limit (cond (ltb 256 n) (Some Limit) None) e in
    let b = cleared (ltb 256 n) Limit None a.1 in
    (some n a.0, ltb-false _ _ b.0)

length_from : (n : ℕ) → 0 < n → n ≤ 256 → length_fault n ≡ None
length_from n h k = rw (not_zero n h, le-ltb _ _ k) refl

pub Laws-value : Laws value_at value IsValue ShowsValue
unfolding value_at
Laws-value =
    Laws-when (Laws-as (Laws-quiet (Laws-judged (Laws-number w16 (2 ^ 16) wide16) length_fault length_cut) (λ n v. Laws-bytes n)) (λ x. x.1) value (λ x v. ap (λ (n : ℕ). to_be_bytes w16 n ++ x.1) v.1)) IsValue
    (λ u v. subst IsValue v.2 (let p = length_is v.0.0 v.1.0.1 in (omega (arith, v.1.1, p.0), omega (arith, v.1.1, p.1))))
    (λ u h. ((length u, u), ((omega (arith, h.1), length_from (length u) h.0 h.1), refl), refl))

pub Laws-ballot : Laws ballot_at ballot IsBallot ShowsBallot
unfolding ballot_at
Laws-ballot =
    Laws-when (Laws-as (Laws-then Laws-word (λ c v. Laws-value)) (λ x. record { counter = x.0; value = x.1 }) ballot (λ x v. refl)) IsBallot
    (λ b v. subst IsBallot v.2 (record { counter = v.1.0; value = v.1.1 }))
    (λ b h. ((b.counter, b.value), (h.counter, h.value), refl))

optional-text : (x : Unit {0} ⊎ Ballot) → optional (some_or_none x) ≡ text_either 0 (λ u. []) 1 ballot x
optional-text (inl u) = refl
optional-text (inr b) = refl

is_optional : (x : Unit {0} ⊎ Ballot) → ValidEither (λ u. Unit {0}) IsBallot x → IsOptional (some_or_none x)
is_optional (inl u) v = tt
is_optional (inr b) v = v

from_optional : (o : Option Ballot) → IsOptional o → ValidAs (ValidEither (λ u. Unit {0}) IsBallot) some_or_none o
from_optional None v = (inl tt, tt, refl)
from_optional (Some b) v = (inr b, v, refl)

pub Laws-optional : Laws optional_at optional IsOptional ShowsOptional
unfolding optional_at
Laws-optional =
    Laws-when (Laws-as (Laws-either 0 1 refl BadStatement bad_statement_cut Laws-empty Laws-ballot) some_or_none optional (λ x v. optional-text x)) IsOptional (λ o v. subst IsOptional v.2 (is_optional v.0 v.1)) from_optional

-- ---- nominations
abbrev AreValues : ℕ → List (List ℕ) → Type 0
AreValues n vs = (length vs ≡ n) × AllByRecursion IsValue vs

more_values : (n : ℕ) (vs : List (List ℕ)) → AreValues (suc n) vs → ValidAs (ValidThen IsValue (λ v. AreValues n)) (λ x. x.0 ∷ x.1) vs
more_values n [] h = absurd (omega (arith, h.0))
more_values n (v ∷ vs) h = ((v, vs), (h.1.0, (omega (arith, h.0), h.1.1)), refl)

no_values : (vs : List (List ℕ)) → AreValues 0 vs → vs ≡ []
no_values [] h = refl
no_values (v ∷ vs) h = absurd (omega (arith, h.0))

abbrev nothing_read : List ℕ → Result (List (List ℕ) × List ℕ) Fault
nothing_read bytes = Ok ([], bytes)

pub Laws-values : (n : ℕ) → Laws (values_at n) (λ vs. flat_map value vs) (AreValues n) (ShowsValues n)
unfolding values_at ShowsValues
Laws-values zero = record {
  takes = λ bytes x fits e. subst (λ (y : List (List ℕ) × List ℕ). Takes bytes (flat_map value y.0) y.1 × AreValues 0 y.0) (ok_is ([], bytes) x e) (record { parts = refl; rest_fits = fits }, (refl, tt));
  again = λ vs rest v. subst (λ (w : List (List ℕ)). nothing_read (flat_map value w ++ rest) ≡ Ok (w, rest)) (sym (no_values vs v)) refl;
  fails = λ bytes f fits e. absurd (no_ok ([], bytes) f e);
  shown = λ front rest f d. absurd d;
  never = λ front f d. absurd d;
}
  where
    no_ok : (x : List (List ℕ) × List ℕ) (d : Fault) → Ok x ≡ Err d → ⊥
    no_ok x d e = cc
Laws-values (suc n) =
    Laws-when (Laws-as (Laws-then Laws-value (λ v h. Laws-values n)) (λ x. x.0 ∷ x.1) (λ vs. flat_map value vs) (λ x v. refl)) (AreValues (suc n)) (λ vs v. subst (AreValues (suc n)) v.2 (ap suc v.1.1.0, (v.1.0, v.1.1.1))) (more_values n)

count_cut : (n : ℕ) → count_fault n ≢ Some Truncated
count_cut n = never_cut (ltb 16 n) Limit None limit_cut none_cut

count_is : (n : ℕ) → count_fault n ≡ None → n ≤ 16
count_is n e = ltb-false _ _ (cleared (ltb 16 n) Limit None e).0

count_from : (n : ℕ) → n ≤ 16 → count_fault n ≡ None
count_from n h = rw (le-ltb _ _ h) refl

pub Laws-nominated : Laws nominated_at nominated_values AreNominated ShowsNominated
unfolding nominated_at
Laws-nominated =
    Laws-when (Laws-as (Laws-then (Laws-judged Laws-byte count_fault count_cut) (λ n v. Laws-values n)) (λ x. x.1) nominated_values (λ x v. ap (λ (n : ℕ). n ∷ flat_map value x.1) v.1.0)) AreNominated
    (λ vs v. subst AreNominated v.2 (let few = count_is v.0.0 v.1.0.1 in (omega (arith, few, v.1.1.0), v.1.1.1)))
    (λ vs h. ((length vs, vs), ((tt, count_from (length vs) h.0), (refl, h.1)), refl))

-- ---- statements
abbrev AsNominate : Statement → Type 0
AsNominate = ValidAs (ValidThen AreNominated (λ v. AreNominated)) (λ x. Nominate x.0 x.1)

abbrev AsPrepare : Statement → Type 0
AsPrepare = ValidAs (ValidThen IsBallot (λ b. ValidThen IsOptional (λ p. ValidThen IsWord (λ a. ValidThen IsWord (λ h. IsWord))))) (λ x. Prepare x.0 x.1.0 x.1.1.0 x.1.1.1.0 x.1.1.1.1)

abbrev AsCommit : Statement → Type 0
AsCommit = ValidAs (ValidThen IsBallot (λ b. ValidThen IsWord (λ p. ValidThen IsWord (λ h. IsWord)))) (λ x. Commit x.0 x.1.0 x.1.1.0 x.1.1.1)

abbrev AsExternalize : Statement → Type 0
AsExternalize = ValidAs (ValidThen IsBallot (λ b. IsWord)) (λ x. Externalize x.0 x.1)

Laws-nominate : Laws nominate_at body AsNominate ShowsNominate
unfolding nominate_at
Laws-nominate = Laws-as (Laws-then Laws-nominated (λ v h. Laws-nominated)) (λ x. Nominate x.0 x.1) body (λ x v. refl)

prepare-text : (b : Ballot) (p : Option Ballot) (x y z : List ℕ) → ballot b ++ optional p ++ x ++ y ++ z ≡ ballot b ++ (optional p ++ (x ++ (y ++ z)))
prepare-text b p x y z = simp append_assoc

Laws-prepare : Laws prepare_at body AsPrepare ShowsPrepare
unfolding prepare_at
Laws-prepare =
    Laws-as (Laws-then Laws-ballot (λ b v. Laws-quiet Laws-optional (λ p v. Laws-quiet Laws-word (λ a v. Laws-quiet Laws-word (λ h v. Laws-word))))) (λ x. Prepare x.0 x.1.0 x.1.1.0 x.1.1.1.0 x.1.1.1.1) body (λ x v. prepare-text x.0 x.1.0 (to_be_bytes w32 x.1.1.0) (to_be_bytes w32 x.1.1.1.0) (to_be_bytes w32 x.1.1.1.1))

commit-text : (b : Ballot) (x y z : List ℕ) → ballot b ++ x ++ y ++ z ≡ ballot b ++ (x ++ (y ++ z))
commit-text b x y z = simp append_assoc

Laws-commit : Laws commit_at body AsCommit ShowsBallot
unfolding commit_at
Laws-commit =
    Laws-as (Laws-quiet Laws-ballot (λ b v. Laws-quiet Laws-word (λ a v. Laws-quiet Laws-word (λ h v. Laws-word)))) (λ x. Commit x.0 x.1.0 x.1.1.0 x.1.1.1) body (λ x v. commit-text x.0 (to_be_bytes w32 x.1.0) (to_be_bytes w32 x.1.1.0) (to_be_bytes w32 x.1.1.1))

Laws-externalize : Laws externalize_at body AsExternalize ShowsBallot
unfolding externalize_at
Laws-externalize = Laws-as (Laws-quiet Laws-ballot (λ b v. Laws-word)) (λ x. Externalize x.0 x.1) body (λ x v. refl)

Laws-last : (b : Bool) → Laws (λ bytes. cond b (commit_at bytes) (externalize_at bytes)) body (ValidIf b AsCommit AsExternalize) ShowsBallot
Laws-last true = Laws-commit
Laws-last false = Laws-externalize

abbrev AsBody : ℕ → Statement → Type 0
AsBody k = ValidIf (eqb k 1) AsNominate (ValidIf (eqb k 2) AsPrepare (ValidIf (eqb k 3) AsCommit AsExternalize))

as_body : (s : Statement) → HasFields s → AsBody (kind s) s
as_body (Nominate v a) h = ((v, a), (h.0, h.1), refl)
as_body (Prepare b p x y z) h = ((b, (p, (x, (y, z)))), (h.0, (h.1, (h.2, (h.3, h.4)))), refl)
as_body (Commit b x y z) h = ((b, (x, (y, z))), (h.0, (h.1, (h.2, h.3))), refl)
as_body (Externalize b x) h = ((b, x), (h.0, h.1), refl)

no_kind : (k : ℕ) → IsKind k → (0 < k) × (k ≤ 4)
no_kind k h =
    let a = cleared (eqb k 0) _ _ h.1 in
    let b = cleared (ltb 4 k) _ None a.1 in
    (some k a.0, ltb-false _ _ b.0)

is_body : (k : ℕ) (s : Statement) → IsKind k → AsBody k s → HasKind k s
is_body zero s h v = absurd (omega (arith, (no_kind 0 h).0))
is_body (suc zero) s h v = subst (HasKind 1) v.2 (refl, (v.1.0, v.1.1))
is_body (suc (suc zero)) s h v = subst (HasKind 2) v.2 (refl, (v.1.0, v.1.1.0, v.1.1.1.0, v.1.1.1.1.0, v.1.1.1.1.1))
is_body (suc (suc (suc zero))) s h v = subst (HasKind 3) v.2 (refl, (v.1.0, v.1.1.0, v.1.1.1.0, v.1.1.1.1))
is_body (suc (suc (suc (suc zero)))) s h v = subst (HasKind 4) v.2 (refl, (v.1.0, v.1.1))
is_body (suc (suc (suc (suc (suc k))))) s h v = absurd (omega (arith, (no_kind (suc (suc (suc (suc (suc k))))) h).1))

Laws-body : (k : ℕ) → IsKind k → Laws (body_at k) body (HasKind k) (ShowsBody k)
unfolding body_at
Laws-body k h =
    Laws-when (Laws-if (eqb k 1) Laws-nominate (Laws-if (eqb k 2) Laws-prepare (Laws-last (eqb k 3)))) (HasKind k) (λ s v. is_body k s h v) (λ s v. subst (λ (j : ℕ). AsBody j s) v.0 (as_body s v.1))

statement_cut : (s : Statement) → statement_fault s ≢ Some Truncated
statement_cut s = cut (is_well_formed s)
  where
    cut : (b : Bool) → cond b None (Some BadStatement) ≢ Some Truncated
    cut true = none_cut
    cut false = never_cut true BadStatement None bad_statement_cut none_cut

pub statement_stands : (s : Statement) → statement_fault s ≡ None → is_well_formed s ≡ true
statement_stands s e = stands (is_well_formed s) e
  where
    stands : (b : Bool) → cond b None (Some BadStatement) ≡ None → b ≡ true
    stands true e = refl
    stands false e = absurd cc

pub well_formed_stands : (s : Statement) → IsWellFormed s → statement_fault s ≡ None
well_formed_stands s h = rw (passes_test s h) refl

pub ill_formed_falls : (s : Statement) → (IsWellFormed s → ⊥) → statement_fault s ≡ Some BadStatement
ill_formed_falls s h = falls (is_well_formed s) refl
  where
    falls : (b : Bool) → is_well_formed s ≡ b → cond b None (Some BadStatement) ≡ Some BadStatement
    falls true e = absurd (h (keeps_rules s e))
    falls false e = refl

pub Laws-statement : (k : ℕ) → IsKind k → Laws (statement_at k) body (ValidJudged (HasKind k) statement_fault) (ShowsStatement k)
unfolding statement_at
Laws-statement k h = Laws-judged (Laws-body k h) statement_fault statement_cut
