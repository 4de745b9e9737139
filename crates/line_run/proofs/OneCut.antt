-- A text has one list of lines, and a line one list of fields.
use Rattle.std.proofs.Common.{◌≡◌, ◌∙◌, ◌==◌, ◌++◌, ℕ, Bool, true, false, not, List, [], ◌∷◌, refl, sym, ap, ap₂, arith}
use Rattle.std.specs.List.{join_with_byte, list_all}
use Rattle.std.specs.Char.{is_ascii_graphic}
use Rattle.std.proofs.lemmas.Bool.{and_from, and_parts, eq-eqb, false≢true}
use Rattle.std.proofs.lemmas.Bool.Decides.{nat_tests}
use Rattle.line_script.specs.Script.{AreFields, AreLines, Bytes, is_field, lines_with_feeds}

-- ---- pieces, each with a byte behind it that none of them has

-- no byte of a piece is this one
abbrev lacks : ℕ → Bytes → Bool
lacks c piece = list_all (λ b. not (b == c)) piece

abbrev ended : ℕ → List Bytes → Bytes
ended c [] = []
ended c (x ∷ xs) = x ++ c ∷ ended c xs

first-same : (x y : ℕ) (xs ys : Bytes) → x ∷ xs ≡ y ∷ ys → (x ≡ y) × (xs ≡ ys)
first-same x y xs ys e = (cc, cc)

none-behind : (x : Bytes) (c : ℕ) (more : Bytes) → [] ≡ x ++ c ∷ more → ⊥
none-behind [] c more e = cc
none-behind (b ∷ x) c more e = cc

not-itself : (b c : ℕ) → not (b == c) ≡ true → c ≡ b → ⊥
not-itself b c h e = false≢true (sym (ap not (eq-eqb b c (sym e))) ∙ h)

-- what stands before the first such byte is one piece
one-piece : (c : ℕ) (x y s t : Bytes) → lacks c x ≡ true → lacks c y ≡ true → x ++ c ∷ s ≡ y ++ c ∷ t → (x ≡ y) × (s ≡ t)
one-piece c [] [] s t l m e = (refl, (first-same c c s t e).1)
one-piece c [] (b ∷ y) s t l m e = absurd (not-itself b c (and_parts (not (b == c)) (lacks c y) m).0 (first-same c b s (y ++ c ∷ t) e).0)
one-piece c (a ∷ x) [] s t l m e = absurd (not-itself a c (and_parts (not (a == c)) (lacks c x) l).0 (sym (first-same a c (x ++ c ∷ s) t e).0))
one-piece c (a ∷ x) (b ∷ y) s t l m e =
    let parts = first-same a b (x ++ c ∷ s) (y ++ c ∷ t) e in
    let more = one-piece c x y s t (and_parts (not (a == c)) (lacks c x) l).1 (and_parts (not (b == c)) (lacks c y) m).1 parts.1 in
    (ap₂ (λ (z : ℕ) (zs : Bytes). z ∷ zs) parts.0 more.0, more.1)

one-cut : (c : ℕ) (xs ys : List Bytes) → list_all (lacks c) xs ≡ true → list_all (lacks c) ys ≡ true → ended c xs ≡ ended c ys → xs ≡ ys
one-cut c [] [] l m e = refl
one-cut c [] (y ∷ ys) l m e = absurd (none-behind y c (ended c ys) e)
one-cut c (x ∷ xs) [] l m e = absurd (none-behind x c (ended c xs) (sym e))
one-cut c (x ∷ xs) (y ∷ ys) l m e =
    let ls = and_parts (lacks c x) (list_all (lacks c) xs) l in
    let ms = and_parts (lacks c y) (list_all (lacks c) ys) m in
    let parts = one-piece c x y (ended c xs) (ended c ys) ls.0 ms.0 e in
    ap₂ (λ (z : Bytes) (zs : List Bytes). z ∷ zs) parts.0 (one-cut c xs ys ls.1 ms.1 parts.1)

-- ---- lines

feeds-end : (lines : List Bytes) → lines_with_feeds lines ≡ ended 10 lines
feeds-end [] = refl
feeds-end (line ∷ lines) = ap (λ rest. line ++ 10 ∷ rest) (feeds-end lines)

-- a text has one list of lines
pub one-lines : (text : Bytes) (xs ys : List Bytes) → AreLines text xs → AreLines text ys → xs ≡ ys
one-lines text xs ys h k = one-cut 10 xs ys h.1 k.1 (sym (feeds-end xs) ∙ (h.0 ∙ (sym k.0 ∙ feeds-end ys)))

-- ---- fields

graphic-is-no-space : (b : ℕ) → is_ascii_graphic b ≡ true → (b == 32) ≡ false
graphic-is-no-space b e = grind (arith, nat_tests)

graphic-lacks : (field : Bytes) → list_all is_ascii_graphic field ≡ true → lacks 32 field ≡ true
graphic-lacks [] h = refl
graphic-lacks (b ∷ more) h =
    let parts = and_parts (is_ascii_graphic b) (list_all is_ascii_graphic more) h in
    and_from (not (b == 32)) (lacks 32 more) (ap not (graphic-is-no-space b parts.0)) (graphic-lacks more parts.1)

field-lacks : (field : Bytes) → is_field field ≡ true → lacks 32 field ≡ true
field-lacks [] h = absurd (false≢true h)
field-lacks (b ∷ more) h = graphic-lacks (b ∷ more) h

fields-lack : (fields : List Bytes) → list_all is_field fields ≡ true → list_all (lacks 32) fields ≡ true
fields-lack [] h = refl
fields-lack (f ∷ fs) h =
    let parts = and_parts (is_field f) (list_all is_field fs) h in
    and_from (lacks 32 f) (list_all (lacks 32) fs) (field-lacks f parts.0) (fields-lack fs parts.1)

nested : (xs ys zs : Bytes) → (xs ++ ys) ++ zs ≡ xs ++ (ys ++ zs)
nested [] ys zs = refl
nested (x ∷ xs) ys zs = ap (λ rest. x ∷ rest) (nested xs ys zs)

spaces-end : (f : Bytes) (fs : List Bytes) → join_with_byte 32 (f ∷ fs) ++ 32 ∷ [] ≡ ended 32 (f ∷ fs)
spaces-end f [] = refl
spaces-end f (g ∷ gs) = nested f (32 ∷ join_with_byte 32 (g ∷ gs)) (32 ∷ []) ∙ ap (λ rest. f ++ 32 ∷ rest) (spaces-end g gs)

-- fields that there are make a line that is not empty
no-line : (f : Bytes) (fs : List Bytes) → is_field f ≡ true → [] ≡ join_with_byte 32 (f ∷ fs) → ⊥
no-line [] fs h e = false≢true h
no-line (b ∷ more) [] h e = cc
no-line (b ∷ more) (g ∷ gs) h e = cc

-- a line has one list of fields
pub one-fields : (line : Bytes) (xs ys : List Bytes) → AreFields line xs → AreFields line ys → xs ≡ ys
one-fields line [] [] h k = refl
one-fields line [] (y ∷ ys) h k = absurd (no-line y ys (and_parts (is_field y) (list_all is_field ys) k.1).0 (h.0 ∙ sym k.0))
one-fields line (x ∷ xs) [] h k = absurd (no-line x xs (and_parts (is_field x) (list_all is_field xs) h.1).0 (k.0 ∙ sym h.0))
one-fields line (x ∷ xs) (y ∷ ys) h k =
    one-cut 32 (x ∷ xs) (y ∷ ys) (fields-lack (x ∷ xs) h.1) (fields-lack (y ∷ ys) k.1)
    (sym (spaces-end x xs) ∙ (ap (λ rest. rest ++ 32 ∷ []) (h.0 ∙ sym k.0) ∙ spaces-end y ys))
