-- Four laws of each format: what is read is spelled so and what is spelled so is read; what is refused shows the fault, and
-- what shows it is refused. No front shows that the text ends.
use Rattle.std.proofs.Common.{◌≡◌, ◌≢◌, ℕ, ◌<◌, Bool, true, false, cond, ltb, eqb, List, [], ◌∷◌, ◌++◌, length, Option, Some, None, Result, Ok, Err, refl, sym, ap, subst, ◌∙◌, append_assoc, eq-eqb, inl, inr, ◌⊎◌}
use Rattle.std.specs.Int.{Width, byte_len, to_be_bytes}
use Rattle.std.proofs.lemmas.Bool.{eqb-true}
use Rattle.scp_codec.specs.declared.error.Fault.{Fault}
use Rattle.scp_codec.specs.declared.error.Fault.TheVariants.{Truncated}
use Rattle.scp_codec.specs.Steps.{◌>>=◌, read_then, unless, read_judged, read_as, read_either, read_fail, byte_at, number_at, bytes_at}
use Rattle.scp_codec.specs.Formats.{NoFault, text_then, ValidThen, ShowsThen, ValidJudged, ShowsJudged, text_either, ShowsEither, ShowsFail, ShowsIf}
use Rattle.scp_codec.specs.Spelling.{byte}
use Rattle.scp_codec.specs.Grammar.{IsByte}
use Rattle.scp_codec.proofs.FieldLaws.{IsBytes, bind_ok, passed_true, chosen, ok_is, Takes, Takes-then, byte_takes, bytes_takes, bytes_again, IsWide, number_takes, number_again}

-- what is made of something valid
abbrev pub ValidAs : {A B : Type 0} → (A → Type 0) → (A → B) → B → Type 0
ValidAs {A} V to b = (a : A) × V a × (to a ≡ b)

abbrev pub ValidEither : {A B : Type 0} → (A → Type 0) → (B → Type 0) → A ⊎ B → Type 0
ValidEither V W (inl a) = V a
ValidEither V W (inr b) = W b

-- one of two, as a test says
abbrev pub ValidIf : {A : Type 0} → Bool → (A → Type 0) → (A → Type 0) → A → Type 0
ValidIf true V W = V
ValidIf false V W = W

-- some front of the bytes shows the fault
pub record ShowsIn (S : List ℕ → Fault → Type 0) (bytes : List ℕ) (f : Fault) : Type 0 where
  pub front : List ℕ
  pub rest : List ℕ
  pub parts : bytes ≡ front ++ rest
  pub shows : S front f

pub record Laws {X : Type 0} (read : List ℕ → Result (X × List ℕ) Fault) (text : X → List ℕ) (V : X → Type 0) (S : List ℕ → Fault → Type 0) : Type 0 where
  pub takes : (bytes : List ℕ) (x : X × List ℕ) → IsBytes bytes → read bytes ≡ Ok x → Takes bytes (text x.0) x.1 × V x.0
  pub again : (x : X) (rest : List ℕ) → V x → read (text x ++ rest) ≡ Ok (x, rest)
  pub fails : (bytes : List ℕ) (f : Fault) → IsBytes bytes → read bytes ≡ Err f → (f ≡ Truncated) ⊎ ShowsIn S bytes f
  pub shown : (front more : List ℕ) (f : Fault) → S front f → read (front ++ more) ≡ Err f
  pub never : (front : List ℕ) (f : Fault) → S front f → f ≢ Truncated

pub bind_err : {A B : Type 0} (r : Result A Fault) (g : A → Result B Fault) (f : Fault) → (r >>= g) ≡ Err f → (r ≡ Err f) ⊎ ((x : A) × (r ≡ Ok x) × (g x ≡ Err f))
bind_err (Ok x) g f e = inr (x, refl, e)
bind_err (Err d) g f e = inl cc

pub err_is : {A : Type 0} (c d : Fault) (x : Result A Fault) → x ≡ Err c → x ≡ Err d → c ≡ d
err_is c d (Ok x) h k = absurd cc
err_is c d (Err b) h k = cc

module _ {A B : Type 0} {r : List ℕ → Result (A × List ℕ) Fault} {ta : A → List ℕ} {Va : A → Type 0} {Sa : List ℕ → Fault → Type 0}
    {s : A → List ℕ → Result (B × List ℕ) Fault} {tb : A → B → List ℕ} {Vb : A → B → Type 0} {Sb : A → List ℕ → Fault → Type 0}
    (first : Laws r ta Va Sa) (second : (a : A) → Va a → Laws (s a) (tb a) (Vb a) (Sb a)) where
  abbrev joined : A → B × List ℕ → Result ((A × B) × List ℕ) Fault
  joined a b = Ok ((a, b.0), b.1)

  abbrev more : A × List ℕ → Result ((A × B) × List ℕ) Fault
  more a = s a.0 a.1 >>= λ b. Ok ((a.0, b.0), b.1)

  then_takes : (bytes : List ℕ) (x : (A × B) × List ℕ) → IsBytes bytes → read_then r s bytes ≡ Ok x → Takes bytes (text_then ta tb x.0) x.1 × ValidThen Va Vb x.0
  then_takes bytes x fits e =
      let a = bind_ok (r bytes) more x e in
      let b = bind_ok (s a.0.0 a.0.1) (λ b. Ok ((a.0.0, b.0), b.1)) x a.2 in
      let p = first.takes bytes a.0 fits a.1 in
      let q = (second a.0.0 p.1).takes a.0.1 b.0 p.0.rest_fits b.1 in
      let made : (A × B) × List ℕ = ((a.0.0, b.0.0), b.0.1) in
      subst (λ (y : (A × B) × List ℕ). Takes bytes (text_then ta tb y.0) y.1 × ValidThen Va Vb y.0) (ok_is made x b.2) (Takes-then bytes (ta a.0.0) a.0.1 (tb a.0.0 b.0.0) b.0.1 p.0 q.0, (p.1, q.1))

  then_again : (x : A × B) (rest : List ℕ) → ValidThen Va Vb x → read_then r s (text_then ta tb x ++ rest) ≡ Ok (x, rest)
  then_again x rest v =
      ap (read_then r s) (append_assoc (ta x.0) (tb x.0 x.1) rest) ∙ ap (λ (w : Result (A × List ℕ) Fault). w >>= more) (first.again x.0 (tb x.0 x.1 ++ rest) v.0) ∙ ap (λ (w : Result (B × List ℕ) Fault). w >>= λ b. Ok ((x.0, b.0), b.1)) ((second x.0 v.0).again x.1 rest v.1)

  then_fails : (bytes : List ℕ) (f : Fault) → IsBytes bytes → read_then r s bytes ≡ Err f → (f ≡ Truncated) ⊎ ShowsIn (ShowsThen ta Va Sa Sb) bytes f
  then_fails bytes f fits e =
      elim (bind_err (r bytes) more f e) [
        | inl h ↦ elim (first.fails bytes f fits h) [
          | inl t ↦ inl t
          | inr d ↦ inr (record { front = d.front; rest = d.rest; parts = d.parts; shows = inl d.shows })
        ]
        | inr h ↦ later h.0 f bytes fits h.1 (bind_err (s h.0.0 h.0.1) (λ b. Ok ((h.0.0, b.0), b.1)) f h.2)
      ]
    where
      no_ok : {X : Type 0} (x : X) (f : Fault) (y : Result X Fault) → y ≡ Ok x → y ≡ Err f → ⊥
      no_ok x f (Ok z) p q = cc
      no_ok x f (Err z) p q = cc

      later : (a : A × List ℕ) (f : Fault) (bytes : List ℕ) → IsBytes bytes → r bytes ≡ Ok a → (s a.0 a.1 ≡ Err f) ⊎ ((b : B × List ℕ) × (s a.0 a.1 ≡ Ok b) × (joined a.0 b ≡ Err f)) → (f ≡ Truncated) ⊎ ShowsIn (ShowsThen ta Va Sa Sb) bytes f
      later a f bytes fits ok (inl h) =
          let p = first.takes bytes a fits ok in
          elim ((second a.0 p.1).fails a.1 f p.0.rest_fits h) [
            | inl t ↦ inl t
            | inr d ↦ inr (record { front = ta a.0 ++ d.front; rest = d.rest; parts = p.0.parts ∙ ap (λ (w : List ℕ). ta a.0 ++ w) d.parts ∙ sym (append_assoc (ta a.0) d.front d.rest); shows = inr (a.0, p.1, d.front, refl, d.shows) })
          ]
      later a f bytes fits ok (inr h) = absurd (no_ok ((a.0, h.0.0), h.0.1) f (joined a.0 h.0) refl h.2)

  then_shown : (front rest : List ℕ) (f : Fault) → ShowsThen ta Va Sa Sb front f → read_then r s (front ++ rest) ≡ Err f
  then_shown front rest f (inl d) = ap (λ (w : Result (A × List ℕ) Fault). w >>= more) (first.shown front rest f d)
  then_shown front rest f (inr d) =
      let a = d.0 in
      let tail = d.2 in
      let regrouped : front ++ rest ≡ ta a ++ (tail ++ rest) = ap (λ (w : List ℕ). w ++ rest) d.3 ∙ append_assoc (ta a) tail rest in
      ap (read_then r s) regrouped ∙ ap (λ (w : Result (A × List ℕ) Fault). w >>= more) (first.again a (tail ++ rest) d.1) ∙ ap (λ (w : Result (B × List ℕ) Fault). w >>= λ b. Ok ((a, b.0), b.1)) ((second a d.1).shown tail rest f d.4)

  then_never : (front : List ℕ) (f : Fault) → ShowsThen ta Va Sa Sb front f → f ≢ Truncated
  then_never front f (inl d) = first.never front f d
  then_never front f (inr d) = (second d.0 d.1).never d.2 f d.4

  pub Laws-then : Laws (read_then r s) (text_then ta tb) (ValidThen Va Vb) (ShowsThen ta Va Sa Sb)
  Laws-then = record { takes = then_takes; again = then_again; fails = then_fails; shown = then_shown; never = then_never }

-- a judgement that let the part stand, and one that did not
stands : {A : Type 0} (j : Option Fault) (a x : A) → unless j a ≡ Ok x → (j ≡ None) × (a ≡ x)
stands None a x e = (refl, ok_is a x e)
stands (Some g) a x e = absurd cc

refused : {A : Type 0} (j : Option Fault) (a : A) (f : Fault) → unless j a ≡ Err f → j ≡ Some f
refused {A} None a f e = absurd (no_ok a f e)
  where
    no_ok : (x : A) (d : Fault) → Ok x ≡ Err d → ⊥
    no_ok x d e = cc
refused {A} (Some g) a f e = ap (λ (d : Fault). Some d) (err_is {A = A} g f (Err g) refl e)

module _ {A : Type 0} {r : List ℕ → Result (A × List ℕ) Fault} {ta : A → List ℕ} {Va : A → Type 0} {Sa : List ℕ → Fault → Type 0} (part : Laws r ta Va Sa) (judge : A → Option Fault) (never_cut : (a : A) → judge a ≢ Some Truncated) where
  abbrev judged : A × List ℕ → Result (A × List ℕ) Fault
  judged a = unless (judge a.0) a

  judged_takes : (bytes : List ℕ) (x : A × List ℕ) → IsBytes bytes → read_judged r judge bytes ≡ Ok x → Takes bytes (ta x.0) x.1 × ValidJudged Va judge x.0
  judged_takes bytes x fits e =
      let a = bind_ok (r bytes) judged x e in
      let g = stands (judge a.0.0) a.0 x a.2 in
      let p = part.takes bytes a.0 fits a.1 in
      subst (λ (y : A × List ℕ). Takes bytes (ta y.0) y.1 × ValidJudged Va judge y.0) g.1 (p.0, (p.1, g.0))

  judged_again : (x : A) (rest : List ℕ) → ValidJudged Va judge x → read_judged r judge (ta x ++ rest) ≡ Ok (x, rest)
  judged_again x rest v = ap (λ (w : Result (A × List ℕ) Fault). w >>= judged) (part.again x rest v.0) ∙ ap (λ (j : Option Fault). unless j (x, rest)) v.1

  judged_fails : (bytes : List ℕ) (f : Fault) → IsBytes bytes → read_judged r judge bytes ≡ Err f → (f ≡ Truncated) ⊎ ShowsIn (ShowsJudged ta Va Sa judge) bytes f
  judged_fails bytes f fits e =
      elim (bind_err (r bytes) judged f e) [
        | inl h ↦ elim (part.fails bytes f fits h) [
          | inl t ↦ inl t
          | inr d ↦ inr (record { front = d.front; rest = d.rest; parts = d.parts; shows = inl d.shows })
        ]
        | inr h ↦
            let p = part.takes bytes h.0 fits h.1 in
            inr (record { front = ta h.0.0; rest = h.0.1; parts = p.0.parts; shows = inr (h.0.0, p.1, refl, refused (judge h.0.0) h.0 f h.2) })
      ]

  judged_shown : (front rest : List ℕ) (f : Fault) → ShowsJudged ta Va Sa judge front f → read_judged r judge (front ++ rest) ≡ Err f
  judged_shown front rest f (inl d) = ap (λ (w : Result (A × List ℕ) Fault). w >>= judged) (part.shown front rest f d)
  judged_shown front rest f (inr d) =
      ap (λ (w : List ℕ). read_judged r judge (w ++ rest)) d.2 ∙ ap (λ (w : Result (A × List ℕ) Fault). w >>= judged) (part.again d.0 rest d.1) ∙ ap (λ (j : Option Fault). unless j (d.0, rest)) d.3

  judged_never : (front : List ℕ) (f : Fault) → ShowsJudged ta Va Sa judge front f → f ≢ Truncated
  judged_never front f (inl d) = part.never front f d
  judged_never front f (inr d) = λ e. never_cut d.0 (d.3 ∙ ap (λ (g : Fault). Some g) e)

  pub Laws-judged : Laws (read_judged r judge) ta (ValidJudged Va judge) (ShowsJudged ta Va Sa judge)
  Laws-judged = record { takes = judged_takes; again = judged_again; fails = judged_fails; shown = judged_shown; never = judged_never }

module _ {A B : Type 0} {r : List ℕ → Result (A × List ℕ) Fault} {ta : A → List ℕ} {Va : A → Type 0} {Sa : List ℕ → Fault → Type 0} (part : Laws r ta Va Sa) (to : A → B) (tb : B → List ℕ) (same_text : (a : A) → Va a → tb (to a) ≡ ta a) where
  abbrev moved : A × List ℕ → Result (B × List ℕ) Fault
  moved a = Ok (to a.0, a.1)

  as_takes : (bytes : List ℕ) (x : B × List ℕ) → IsBytes bytes → read_as r to bytes ≡ Ok x → Takes bytes (tb x.0) x.1 × ValidAs Va to x.0
  as_takes bytes x fits e =
      let a = bind_ok (r bytes) moved x e in
      let p = part.takes bytes a.0 fits a.1 in
      subst (λ (y : B × List ℕ). Takes bytes (tb y.0) y.1 × ValidAs Va to y.0) (ok_is (to a.0.0, a.0.1) x a.2) (subst (λ (t : List ℕ). Takes bytes t a.0.1) (sym (same_text a.0.0 p.1)) p.0, (a.0.0, p.1, refl))

  as_again : (x : B) (rest : List ℕ) → ValidAs Va to x → read_as r to (tb x ++ rest) ≡ Ok (x, rest)
  as_again x rest v =
      let text : tb x ≡ ta v.0 = ap tb (sym v.2) ∙ same_text v.0 v.1 in
      ap (λ (t : List ℕ). read_as r to (t ++ rest)) text ∙ ap (λ (w : Result (A × List ℕ) Fault). w >>= moved) (part.again v.0 rest v.1) ∙ ap (λ (b : B). Ok (b, rest)) v.2

  as_fails : (bytes : List ℕ) (f : Fault) → IsBytes bytes → read_as r to bytes ≡ Err f → (f ≡ Truncated) ⊎ ShowsIn Sa bytes f
  as_fails bytes f fits e =
      elim (bind_err (r bytes) moved f e) [
        | inl h ↦ part.fails bytes f fits h
        | inr h ↦ absurd (no_ok (to h.0.0, h.0.1) f h.2)
      ]
    where
      no_ok : (x : B × List ℕ) (d : Fault) → Ok x ≡ Err d → ⊥
      no_ok x d e = cc

  pub Laws-as : Laws (read_as r to) tb (ValidAs Va to) Sa
  Laws-as = record { takes = as_takes; again = as_again; fails = as_fails; shown = λ front rest f d. ap (λ (w : Result (A × List ℕ) Fault). w >>= moved) (part.shown front rest f d); never = part.never }

module _ {A B : Type 0} {r : List ℕ → Result (A × List ℕ) Fault} {ta : A → List ℕ} {Va : A → Type 0} {Sa : List ℕ → Fault → Type 0}
    {s : A → List ℕ → Result (B × List ℕ) Fault} {tb : A → B → List ℕ} {Vb : A → B → Type 0}
    (first : Laws r ta Va Sa) (second : (a : A) → Va a → Laws (s a) (tb a) (Vb a) NoFault) where
  abbrev both : Laws (read_then r s) (text_then ta tb) (ValidThen Va Vb) (ShowsThen ta Va Sa (λ a. NoFault))
  both = Laws-then first second

  only_first : (front : List ℕ) (f : Fault) → ShowsThen ta Va Sa (λ a. NoFault) front f → Sa front f
  only_first front f (inl d) = d
  only_first front f (inr d) = absurd d.4

  quiet_fails : (bytes : List ℕ) (f : Fault) → IsBytes bytes → read_then r s bytes ≡ Err f → (f ≡ Truncated) ⊎ ShowsIn Sa bytes f
  quiet_fails bytes f fits e =
      elim (both.fails bytes f fits e) [
        | inl t ↦ inl t
        | inr d ↦ inr (record { front = d.front; rest = d.rest; parts = d.parts; shows = only_first d.front f d.shows })
      ]

  -- nothing in the second part can be wrong
  pub Laws-quiet : Laws (read_then r s) (text_then ta tb) (ValidThen Va Vb) Sa
  Laws-quiet = record { takes = both.takes; again = both.again; fails = quiet_fails; shown = λ front rest f d. both.shown front rest f (inl d); never = first.never }

module _ {A : Type 0} {r : List ℕ → Result (A × List ℕ) Fault} {ta : A → List ℕ} {Va : A → Type 0} {Sa : List ℕ → Fault → Type 0} (part : Laws r ta Va Sa) where
  -- the same under another name of what is valid
  pub Laws-when : (V : A → Type 0) → ((a : A) → Va a → V a) → ((a : A) → V a → Va a) → Laws r ta V Sa
  Laws-when V to from = record {
    takes = λ bytes x fits e. let p = part.takes bytes x fits e in (p.0, to x.0 p.1);
    again = λ x rest v. part.again x rest (from x v);
    fails = part.fails;
    shown = part.shown;
    never = part.never;
  }

pub Laws-fail : {A : Type 0} (fault : Fault) (ta : A → List ℕ) → fault ≢ Truncated → Laws (read_fail fault) ta (λ a. ⊥) (ShowsFail fault)
Laws-fail {A} fault ta other = record {
  takes = λ bytes x fits e. absurd (no_err x fault e);
  again = λ x rest v. absurd v;
  fails = λ bytes f fits e. inr (record { front = []; rest = bytes; parts = refl; shows = (refl, sym (err_is {A = A × List ℕ} fault f (Err fault) refl e)) });
  shown = λ front rest f d. ap (λ (g : Fault). Err g) (sym d.1);
  never = λ front f d e. other (sym d.1 ∙ e);
}
  where
    no_err : (x : A × List ℕ) (d : Fault) → Err d ≡ Ok x → ⊥
    no_err x d e = cc

-- ---- the smallest parts
only_short : {A : Type 0} (b : Bool) (x : A) (f : Fault) → cond b (Err Truncated) (Ok x) ≡ Err f → f ≡ Truncated
only_short {A} true x f e = sym (err_is {A = A} Truncated f (Err Truncated) refl e)
only_short false x f e = absurd (no_ok x f e)
  where
    no_ok : {A : Type 0} (x : A) (d : Fault) → Ok x ≡ Err d → ⊥
    no_ok x d e = cc

pub Laws-bytes : (n : ℕ) → Laws (bytes_at n) (λ u. u) (λ u. length u ≡ n) NoFault
Laws-bytes n = record {
  takes = bytes_takes n;
  again = λ u rest len. bytes_again n u rest len;
  fails = λ bytes f fits e. inl (only_short (ltb (length bytes) n) _ f e);
  shown = λ front rest f d. absurd d;
  never = λ front f d. absurd d;
}

pub Laws-number : (w : Width) (limit : ℕ) (wide : IsWide w limit) → Laws (number_at w) (to_be_bytes w) (λ n. n < limit) NoFault
Laws-number w limit wide = record {
  takes = number_takes w limit wide;
  again = λ n rest lt. number_again w limit wide n rest lt;
  fails = λ bytes f fits e. inl (only_short (ltb (length bytes) (byte_len w)) _ f e);
  shown = λ front rest f d. absurd d;
  never = λ front f d. absurd d;
}

pub Laws-byte : Laws byte_at byte IsByte NoFault
Laws-byte = record {
  takes = λ bytes x fits e. (byte_takes bytes x fits e, tt);
  again = λ n rest v. refl;
  fails = λ bytes f fits e. inl (empty bytes f e);
  shown = λ front rest f d. absurd d;
  never = λ front f d. absurd d;
}
  where
    empty : (bytes : List ℕ) (f : Fault) → byte_at bytes ≡ Err f → f ≡ Truncated
    empty [] f e = sym (err_is {A = ℕ × List ℕ} Truncated f (Err Truncated) refl e)
    empty (b ∷ bytes) f e = absurd cc

pub Laws-empty : Laws (λ bytes. Ok (tt {0}, bytes)) (λ u. []) (λ u. Unit {0}) NoFault
Laws-empty = record {
  takes = λ bytes x fits e. subst (λ (y : Unit {0} × List ℕ). Takes bytes [] y.1 × Unit {0}) (ok_is (tt, bytes) x e) (record { parts = refl; rest_fits = fits }, tt);
  again = λ n rest v. refl;
  fails = λ bytes f fits e. absurd (no_ok (tt, bytes) f e);
  shown = λ front rest f d. absurd d;
  never = λ front f d. absurd d;
}
  where
    no_ok : (x : Unit {0} × List ℕ) (d : Fault) → Ok x ≡ Err d → ⊥
    no_ok x d e = cc

module _ {A B : Type 0} {r : List ℕ → Result (A × List ℕ) Fault} {ta : A → List ℕ} {Va : A → Type 0} {Sa : List ℕ → Fault → Type 0}
    {s : List ℕ → Result (B × List ℕ) Fault} {tb : B → List ℕ} {Vb : B → Type 0} {Sb : List ℕ → Fault → Type 0}
    (m n : ℕ) (differ : eqb n m ≡ false) (fault : Fault) (other : fault ≢ Truncated) (left : Laws r ta Va Sa) (right : Laws s tb Vb Sb) where
  abbrev as_left : A × List ℕ → Result ((A ⊎ B) × List ℕ) Fault
  as_left a = Ok (inl a.0, a.1)

  abbrev as_right : B × List ℕ → Result ((A ⊎ B) × List ℕ) Fault
  as_right b = Ok (inr b.0, b.1)

  abbrev by_tag : ℕ × List ℕ → Result ((A ⊎ B) × List ℕ) Fault
  by_tag tag = cond (eqb tag.0 m) (r tag.1 >>= as_left) (cond (eqb tag.0 n) (s tag.1 >>= as_right) (Err fault))

  abbrev T : A ⊎ B → List ℕ
  T = text_either m ta n tb

  abbrev V : A ⊎ B → Type 0
  V = ValidEither Va Vb

  abbrev S : List ℕ → Fault → Type 0
  S = ShowsEither m Sa n Sb fault

  tagged : (c : ℕ) (tag : ℕ) (bytes after text rest : List ℕ) → eqb tag c ≡ true → Takes bytes (tag ∷ []) after → Takes after text rest → Takes bytes (c ∷ text) rest
  tagged c tag bytes after text rest e p q =
      subst (λ (k : ℕ). Takes bytes (k ∷ text) rest) (eqb-true tag c e) (Takes-then bytes (tag ∷ []) after text rest p q)

  either_takes : (bytes : List ℕ) (x : (A ⊎ B) × List ℕ) → IsBytes bytes → read_either m r n s fault bytes ≡ Ok x → Takes bytes (T x.0) x.1 × V x.0
  either_takes bytes x fits e =
      let t = bind_ok (byte_at bytes) by_tag x e in
      let p = byte_takes bytes t.0 fits t.1 in
      elim (chosen (eqb t.0.0 m) (r t.0.1 >>= as_left) (cond (eqb t.0.0 n) (s t.0.1 >>= as_right) (Err fault)) (Ok x) t.2) [
        | inl h ↦
            let a = bind_ok (r t.0.1) as_left x h.1 in
            let q = left.takes t.0.1 a.0 p.rest_fits a.1 in
            subst (λ (y : (A ⊎ B) × List ℕ). Takes bytes (T y.0) y.1 × V y.0) (ok_is (inl a.0.0, a.0.1) x a.2) (tagged m t.0.0 bytes t.0.1 (ta a.0.0) a.0.1 h.0 p q.0, q.1)
        | inr h ↦
            let g = passed_true (eqb t.0.0 n) fault (s t.0.1 >>= as_right) x h.1 in
            let b = bind_ok (s t.0.1) as_right x g.1 in
            let q = right.takes t.0.1 b.0 p.rest_fits b.1 in
            subst (λ (y : (A ⊎ B) × List ℕ). Takes bytes (T y.0) y.1 × V y.0) (ok_is (inr b.0.0, b.0.1) x b.2) (tagged n t.0.0 bytes t.0.1 (tb b.0.0) b.0.1 g.0 p q.0, q.1)
      ]

  either_again : (x : A ⊎ B) (rest : List ℕ) → V x → read_either m r n s fault (T x ++ rest) ≡ Ok (x, rest)
  either_again (inl a) rest v =
      rw (eq-eqb m m refl) (ap (λ (w : Result (A × List ℕ) Fault). w >>= as_left) (left.again a rest v))
  either_again (inr b) rest v =
      rw (differ, eq-eqb n n refl) (ap (λ (w : Result (B × List ℕ) Fault). w >>= as_right) (right.again b rest v))

  shows_more : (c tag : ℕ) (bytes after : List ℕ) → eqb tag c ≡ true → Takes bytes (tag ∷ []) after → (f : Fault) (Sc : List ℕ → Fault → Type 0) → ((later : List ℕ) → Sc later f → S (c ∷ later) f) → ShowsIn Sc after f → ShowsIn S bytes f
  shows_more c tag bytes after e p f Sc lift d = record {
    front = c ∷ d.front;
    rest = d.rest;
    parts = p.parts ∙ ap (λ (w : List ℕ). tag ∷ w) d.parts ∙ ap (λ (k : ℕ). k ∷ d.front ++ d.rest) (eqb-true tag c e);
    shows = lift d.front d.shows;
  }

  no_ok_either : (x : (A ⊎ B) × List ℕ) (d : Fault) → Ok x ≡ Err d → ⊥
  no_ok_either x d e = cc

  by_tag_fails : (tag : ℕ) (after : List ℕ) (bytes : List ℕ) (f : Fault) → Takes bytes (tag ∷ []) after → by_tag (tag, after) ≡ Err f → (f ≡ Truncated) ⊎ ShowsIn S bytes f
  by_tag_fails tag after bytes f p e =
      elim (chosen (eqb tag m) (r after >>= as_left) (cond (eqb tag n) (s after >>= as_right) (Err fault)) (Err f) e) [
        | inl h ↦ elim (bind_err (r after) as_left f h.1) [
          | inl k ↦ elim (left.fails after f p.rest_fits k) [
            | inl t ↦ inl t
            | inr d ↦ inr (shows_more m tag bytes after h.0 p f Sa (λ later q. inr (inl (later, refl, q))) d)
          ]
          | inr k ↦ absurd (no_ok_either (inl k.0.0, k.0.1) f k.2)
        ]
        | inr h ↦ elim (chosen (eqb tag n) (s after >>= as_right) (Err fault) (Err f) h.1) [
          | inl g ↦ elim (bind_err (s after) as_right f g.1) [
            | inl k ↦ elim (right.fails after f p.rest_fits k) [
              | inl t ↦ inl t
              | inr d ↦ inr (shows_more n tag bytes after g.0 p f Sb (λ later q. inr (inr (later, refl, q))) d)
            ]
            | inr k ↦ absurd (no_ok_either (inr k.0.0, k.0.1) f k.2)
          ]
          | inr g ↦ inr (record { front = tag ∷ []; rest = after; parts = p.parts; shows = inl ((tag, refl, h.0, g.0), sym (err_is {A = (A ⊎ B) × List ℕ} fault f (Err fault) refl g.1)) })
        ]
      ]

  either_fails : (bytes : List ℕ) (f : Fault) → IsBytes bytes → read_either m r n s fault bytes ≡ Err f → (f ≡ Truncated) ⊎ ShowsIn S bytes f
  either_fails bytes f fits e =
      elim (bind_err (byte_at bytes) by_tag f e) [
        | inl h ↦ elim (Laws-byte.fails bytes f fits h) [ inl t ↦ inl t | inr d ↦ absurd d.shows ]
        | inr t ↦ by_tag_fails t.0.0 t.0.1 bytes f (byte_takes bytes t.0 fits t.1) t.2
      ]

  either_shown : (front rest : List ℕ) (f : Fault) → S front f → read_either m r n s fault (front ++ rest) ≡ Err f
  either_shown front rest f (inl d) =
      ap (λ (w : List ℕ). read_either m r n s fault (w ++ rest)) d.0.1 ∙ rw (d.0.2, d.0.3, d.1) refl
  either_shown front rest f (inr (inl d)) =
      ap (λ (w : List ℕ). read_either m r n s fault (w ++ rest)) d.1 ∙ rw (eq-eqb m m refl) (ap (λ (w : Result (A × List ℕ) Fault). w >>= as_left) (left.shown d.0 rest f d.2))
  either_shown front rest f (inr (inr d)) =
      ap (λ (w : List ℕ). read_either m r n s fault (w ++ rest)) d.1 ∙ rw (differ, eq-eqb n n refl) (ap (λ (w : Result (B × List ℕ) Fault). w >>= as_right) (right.shown d.0 rest f d.2))

  either_never : (front : List ℕ) (f : Fault) → S front f → f ≢ Truncated
  either_never front f (inl d) = λ e. other (sym d.1 ∙ e)
  either_never front f (inr (inl d)) = left.never d.0 f d.2
  either_never front f (inr (inr d)) = right.never d.0 f d.2

  pub Laws-either : Laws (read_either m r n s fault) T V S
  Laws-either = record { takes = either_takes; again = either_again; fails = either_fails; shown = either_shown; never = either_never }

module _ {A : Type 0} {r : List ℕ → Result (A × List ℕ) Fault} {t : A → List ℕ} {Va : A → Type 0} {Sa : List ℕ → Fault → Type 0}
    {s : List ℕ → Result (A × List ℕ) Fault} {Vb : A → Type 0} {Sb : List ℕ → Fault → Type 0} where
  pub Laws-if : (b : Bool) → Laws r t Va Sa → Laws s t Vb Sb → Laws (λ bytes. cond b (r bytes) (s bytes)) t (ValidIf b Va Vb) (ShowsIf b Sa Sb)
  Laws-if true p q = p
  Laws-if false p q = q
