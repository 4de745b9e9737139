-- Loops over lines, by index: what part of them says of all.
use Rattle.std.specs.Prelude.{◌≡◌, ◌≢◌, ◌+◌, ◌<◌, ◌≤◌, ℕ, List, [], ◌∷◌, ◌++◌, length, get_or, set, drop, Option, None}
use Rattle.std.proofs.Common.{sym, subst, arith, append_assoc, append-nil}
use Rattle.std.proofs.lemmas.List.{drop_all, drop_more}
use Rattle.line_script.specs.Script.{Bytes}
use Rattle.live_feed.specs.Served.{LineReply}
use Rattle.live_host.specs.Hosts.{Live, Serves}
use Rattle.live_shards.specs.Parts.{AreGathered, AreOwnAnswered}
use Rattle.live_shards.specs.Parts.AreGathered.{ends, takes}
use Rattle.live_shards.specs.Parts.AreOwnAnswered.{at_end, not_own, own, stops}

-- ---- the lines of one place
-- so many of the lines were gone through, with these answers; whatever the rest is answered then, completes them
abbrev pub OwnSoFar : ℕ → Live → ℕ → List (Option Bytes) → List ℕ → ℕ → Live → List LineReply → Type 0
OwnSoFar k s n lines places i now answers =
    (more : List LineReply) (t : Live) → AreOwnAnswered k now (n + i) (drop i lines) (drop i places) more t
    → AreOwnAnswered k s n lines places (answers ++ more) t

module _ (k : ℕ) (s : Live) (n : ℕ) (lines : List (Option Bytes)) (places : List ℕ) where
  pub own_first : OwnSoFar k s n lines places 0 s []
  own_first more t are = let same : n + 0 ≡ n = omega arith in subst (λ (m : ℕ). AreOwnAnswered k s m lines places more t) same are

  -- where a line is left, there is a place
  some_left : (i : ℕ) → i < length lines → length places ≡ length lines → i < length places
  some_left i l long = omega (arith, l, long)

  -- what is said of the rest, said of the next line and the others
  rest_of : (i : ℕ) (now t : Live) (answers : List LineReply) (d : Option Bytes) (e : ℕ) → i < length lines → length places ≡ length lines → get_or places i e ≡ k
      → AreOwnAnswered k now (n + i) (get_or lines i d ∷ drop (i + 1) lines) (k ∷ drop (i + 1) places) answers t
      → AreOwnAnswered k now (n + i) (drop i lines) (drop i places) answers t
  rest_of i now t answers d e l long at are =
      subst (λ ls. AreOwnAnswered k now (n + i) ls (drop i places) answers t) (sym (drop_more lines i d l))
      (subst (λ ps. AreOwnAnswered k now (n + i) (get_or lines i d ∷ drop (i + 1) lines) ps answers t) (sym (drop_more places i e (some_left i l long)))
      (subst (λ (p : ℕ). AreOwnAnswered k now (n + i) (get_or lines i d ∷ drop (i + 1) lines) (p ∷ drop (i + 1) places) answers t) (sym at) are))

  -- the next line is of this place, and is answered
  pub own_more : (i : ℕ) (now new : Live) (answers : List LineReply) (a : LineReply) (d : Option Bytes) (e : ℕ) → OwnSoFar k s n lines places i now answers
      → i < length lines → length places ≡ length lines → get_or places i e ≡ k → Serves now (n + i) (get_or lines i d) a new
      → OwnSoFar k s n lines places (i + 1) new (answers ++ a ∷ [])
  own_more i now new answers a d e so_far l long at one more t are =
      let next : n + (i + 1) ≡ n + i + 1 = omega arith in
      subst (λ all. AreOwnAnswered k s n lines places all t) (sym (append_assoc answers (a ∷ []) more))
      (so_far (a ∷ more) t (rest_of i now t (a ∷ more) d e l long at (own a one (subst (λ (m : ℕ). AreOwnAnswered k new m (drop (i + 1) lines) (drop (i + 1) places) more t) next are))))

  -- the next line is of another place
  pub own_other : (i : ℕ) (now : Live) (answers : List LineReply) (e : ℕ) → OwnSoFar k s n lines places i now answers
      → i < length lines → length places ≡ length lines → get_or places i e ≢ k
      → OwnSoFar k s n lines places (i + 1) now answers
  own_other i now answers e so_far l long other more t are =
      let next : n + (i + 1) ≡ n + i + 1 = omega arith in
      so_far more t
      (subst (λ ls. AreOwnAnswered k now (n + i) ls (drop i places) more t) (sym (drop_more lines i None l))
      (subst (λ ps. AreOwnAnswered k now (n + i) (get_or lines i None ∷ drop (i + 1) lines) ps more t) (sym (drop_more places i e (some_left i l long)))
      (not_own (get_or places i e) other (subst (λ (m : ℕ). AreOwnAnswered k now m (drop (i + 1) lines) (drop (i + 1) places) more t) next are))))

  -- no line is left
  pub own_end : (i : ℕ) (now : Live) (answers : List LineReply) → OwnSoFar k s n lines places i now answers → length lines ≤ i → length places ≡ length lines
      → AreOwnAnswered k s n lines places answers now
  own_end i now answers so_far l long =
      subst (λ all. AreOwnAnswered k s n lines places all now) (append-nil answers)
      (so_far [] now
      (subst (λ ls. AreOwnAnswered k now (n + i) ls (drop i places) [] now) (sym (drop_all i lines l))
      (subst (λ ps. AreOwnAnswered k now (n + i) [] ps [] now) (sym (drop_all i places (omega (arith, l, long)))) at_end)))

  -- the next line is of this place, and is not answered
  pub own_stops : (i : ℕ) (now t : Live) (answers : List LineReply) (e : ℕ) → OwnSoFar k s n lines places i now answers
      → i < length lines → length places ≡ length lines → get_or places i e ≡ k
      → AreOwnAnswered k s n lines places answers t
  own_stops i now t answers e so_far l long at =
      subst (λ all. AreOwnAnswered k s n lines places all t) (append-nil answers)
      (so_far [] t (rest_of i now t [] None e l long at stops))

-- ---- the answers of all places
-- so many places were gone through, with these answers, and these are left; whatever is taken of them then, completes them
abbrev pub GatheredSoFar : List ℕ → List (List LineReply) → ℕ → List (List LineReply) → List LineReply → Type 0
GatheredSoFar places all i left answers =
    (more : List LineReply) → AreGathered (drop i places) left more → AreGathered places all (answers ++ more)

module _ (places : List ℕ) (all : List (List LineReply)) where
  pub gathered_first : GatheredSoFar places all 0 all []
  gathered_first more are = are

  -- the next answer is taken
  pub gathered_more : (i : ℕ) (left : List (List LineReply)) (answers : List LineReply) (a : LineReply) (rest : List LineReply) (e : ℕ) → GatheredSoFar places all i left answers
      → i < length places → get_or left (get_or places i e) [] ≡ a ∷ rest
      → GatheredSoFar places all (i + 1) (set left (get_or places i e) rest) (answers ++ a ∷ [])
  gathered_more i left answers a rest e so_far l is more are =
      subst (AreGathered places all) (sym (append_assoc answers (a ∷ []) more))
      (so_far (a ∷ more) (subst (λ ps. AreGathered ps left (a ∷ more)) (sym (drop_more places i e l)) (takes is are)))

  -- at any time
  pub gathered_now : (i : ℕ) (left : List (List LineReply)) (answers : List LineReply) → GatheredSoFar places all i left answers → AreGathered places all answers
  gathered_now i left answers so_far = subst (AreGathered places all) (append-nil answers) (so_far [] ends)
