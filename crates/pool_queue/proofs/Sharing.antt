-- What is made of each of a list, one after the other.
use Rattle.std.proofs.Common.{◌≡◌, ◌∙◌, ◌<◌, ℕ, List, [], ◌∷◌, ◌++◌, length, slice_index_or, refl, sym, ap, subst, arith}
use Rattle.std.specs.List.{AllZip}
use Rattle.std.proofs.lemmas.List.{append-nil, append_assoc}
use Rattle.std.proofs.lemmas.List.Elements.{AllZip-get_or, length_all_zip}
use Rattle.std.specs.declared.snapshot.Snapshot.{Snapshot}
use Rattle.pool_queue.specs.Doing.{AreTasksDone}

module _ {A B : Type 0} (R : A → B → Type 0) where
  -- whatever those that are left will be made to, behind what was made it is that of all
  abbrev pub Makes : List A → List A → List B → Type 0
  Makes all left made = (ys : List B) → AllZip R left ys → AllZip R all (made ++ ys)

  pub makes_none : (all left : List A) (made : List B) → left ≡ all → made ≡ [] → Makes all left made
  makes_none all left made whole empty ys h = subst (λ zs. AllZip R all (zs ++ ys)) (sym empty) (subst (λ xs. AllZip R xs ys) whole h)

  pub makes_more : (all left rest : List A) (x : A) (made now : List B) (y : B) → left ≡ x ∷ rest → R x y → now ≡ made ++ y ∷ [] → Makes all left made → Makes all rest now
  makes_more all left rest x made now y is one grown whole ys h =
      let longer : AllZip R all (made ++ y ∷ ys) = whole (y ∷ ys) (subst (λ xs. AllZip R xs (y ∷ ys)) (sym is) (one, h)) in
      subst (AllZip R all) (sym (ap (λ zs. zs ++ ys) grown ∙ append_assoc made (y ∷ []) ys)) longer

  pub makes_all : (all left : List A) (made : List B) → length left ≡ 0 → Makes all left made → AllZip R all made
  makes_all all [] made few whole = subst (AllZip R all) (append-nil made) (whole [] tt)
  makes_all all (x ∷ xs) made few whole = absurd (omega (arith, few))

module _ {T : Type 0} (does : T → T → Type 0) where
  -- what a place remembers is the task that was put there
  abbrev pub Remembers : T → Snapshot T → Type 0
  Remembers task was = was.value ≡ task

  abbrev pub DoesFrom : Snapshot T → T → Type 0
  DoesFrom was task = does was.value task

  through : (old : List T) (places : List (Snapshot T)) (new : List T) → AllZip Remembers old places → AllZip DoesFrom places new → AllZip does old new
  through [] [] [] a b = tt
  through [] [] (y ∷ ys) a b = absurd b
  through [] (p ∷ ps) new a b = absurd a
  through (x ∷ xs) [] new a b = absurd a
  through (x ∷ xs) (p ∷ ps) [] a b = absurd b
  through (x ∷ xs) (p ∷ ps) (y ∷ ys) a b = (subst (λ z. does z y) a.0 b.0, through xs ps ys a.1 b.1)

  -- what was put in places, and done from there, was done of all
  pub all_done : (old : List T) (places : List (Snapshot T)) (new : List T) → AllZip Remembers old places → AllZip DoesFrom places new → AreTasksDone does old new
  all_done old places new a b =
      let whole : AllZip does old new = through old places new a b in
      record { count = sym (length_all_zip does old new whole); each = λ k d l. AllZip-get_or does old new k d d whole l }
