-- Where each part answers the lines of its place, the whole host answers them.
use Rattle.std.specs.Prelude.{◌≡◌, ◌≢◌, ◌⊎◌, ◌+◌, ◌<◌, ℕ, Bool, true, false, eqb, List, [], ◌∷◌, length, slice_index_or, slice_set, Option}
use Rattle.std.proofs.Common.{◌∙◌, inl, inr, refl, sym, ap, subst, arith, eq-eqb, eqb-true, true≢false, ext_get_or, get_or-set_other, get_or-set_same, length-set}
use Rattle.line_script.specs.Script.{Bytes}
use Rattle.live_feed.specs.Served.{AreAnswered, LineReply}
use Rattle.live_host.specs.Hosts.{Live, Serves, new_live}
use Rattle.live_shards.specs.Parts.{AreGathered, AreOwnAnswered, AreParts, ArePlaced, PartsAnswerForTheWhole, PartsAnswerLinesForTheWhole, joined, part_at}
use Rattle.live_shards.specs.Parts.AreGathered.{takes}
use Rattle.live_shards.proofs.Inverted.{Answered, ended, inverted}

abbrev head_of : LineReply → List LineReply → LineReply
head_of d [] = d
head_of d (a ∷ more) = a

abbrev tail_of : List LineReply → List LineReply
tail_of [] = []
tail_of (a ∷ more) = more

-- ---- the part that answers
-- the part at the place of a line whose answer was taken answered so
first_answered : (p : ℕ) (s t : Live) (n : ℕ) (line : Option Bytes) (lines : List (Option Bytes)) (places : List ℕ) (answers : List LineReply) (a : LineReply) (rest : List LineReply)
    → AreOwnAnswered p s n (line ∷ lines) (p ∷ places) answers t → answers ≡ a ∷ rest
    → (u : Live) × Serves s n line a u × AreOwnAnswered p u (n + 1) lines places rest t
first_answered p s t n line lines places answers a rest are is = by (inverted p s t n line lines p places answers are)
  where
    by : ((p ≢ p) × AreOwnAnswered p s (n + 1) lines places answers t) ⊎ ((p ≡ p) × ((answers ≡ []) ⊎ Answered p s n line lines places answers t))
        → (u : Live) × Serves s n line a u × AreOwnAnswered p u (n + 1) lines places rest t
    by (inl other) = absurd (other.0 refl)
    by (inr (same, inl none)) = let wrong : a ∷ rest ≡ [] = sym is ∙ none in absurd (cc)
    by (inr (same, inr one)) =
        let both : one.a ∷ one.more ≡ a ∷ rest = sym one.is ∙ is in (
          one.state,
          subst (λ x. Serves s n line x one.state) (ap (head_of a) both) one.serves,
          subst (λ more. AreOwnAnswered p one.state (n + 1) lines places more t) (ap tail_of both) one.others,
        )

-- another part did not
others_answered : (k p : ℕ) → k ≢ p → (s t : Live) (n : ℕ) (line : Option Bytes) (lines : List (Option Bytes)) (places : List ℕ) (answers : List LineReply)
    → AreOwnAnswered k s n (line ∷ lines) (p ∷ places) answers t → AreOwnAnswered k s (n + 1) lines places answers t
others_answered k p other s t n line lines places answers are = by (inverted k s t n line lines p places answers are)
  where
    by : ((p ≢ k) × AreOwnAnswered k s (n + 1) lines places answers t) ⊎ ((p ≡ k) × ((answers ≡ []) ⊎ Answered k s n line lines places answers t))
        → AreOwnAnswered k s (n + 1) lines places answers t
    by (inl others) = others.1
    by (inr (same, one)) = absurd (other (sym same))

same_or_not : (k p : ℕ) → (k ≡ p) ⊎ (k ≢ p)
same_or_not k p = by (eqb k p) refl
  where
    by : (is : Bool) → eqb k p ≡ is → (k ≡ p) ⊎ (k ≢ p)
    by true is = inl (eqb-true k p is)
    by false is = inr (λ same. true≢false (sym (eq-eqb k p same) ∙ is))

-- ---- the parts
abbrev AreAllOwn : Bool → List Live → List Live → ℕ → List (Option Bytes) → List ℕ → List (List LineReply) → Type 0
AreAllOwn bytes parts now n lines places all =
    (k : ℕ) → k < length parts → AreOwnAnswered k (part_at bytes parts k) n lines places (slice_index_or all k []) (part_at bytes now k)

abbrev IsWhole : Bool → List Live → List Live → ℕ → List (Option Bytes) → List LineReply → Type 0
IsWhole bytes parts now n lines answers =
    (t : Live) × AreAnswered Serves (joined parts) n lines answers t
    × (length answers ≡ length lines → (t ≡ joined now) × AreParts bytes now)

module _ (bytes : Bool) (now : List Live) where
  -- no line is left: the parts are what they are now
  none_left : (parts : List Live) (n : ℕ) (all : List (List LineReply)) → AreParts bytes parts → length now ≡ length parts
      → AreAllOwn bytes parts now n [] [] all → (joined parts ≡ joined now) × AreParts bytes now
  none_left parts n all are long owns =
      let same : parts ≡ now =
      ext_get_or (new_live bytes) parts now (sym long) (λ k l. sym ((ended k (part_at bytes parts k) (part_at bytes now k) n (slice_index_or all k []) (owns k l)).1)) in
      (ap joined same, subst (AreParts bytes) same are)

  -- no answer is left
  none_gathered : (parts : List Live) (n : ℕ) (lines : List (Option Bytes)) (places : List ℕ) (all : List (List LineReply)) → AreParts bytes parts
      → length now ≡ length parts → ArePlaced (length parts) lines places → AreAllOwn bytes parts now n lines places all → IsWhole bytes parts now n lines []
  none_gathered parts n [] [] all are long placed owns = (joined parts, refl, λ same. none_left parts n all are long owns)
  none_gathered parts n [] (p ∷ places) all are long placed owns = absurd placed
  none_gathered parts n (line ∷ lines) places all are long placed owns = (joined parts, refl, λ same. absurd (omega (arith, same)))

  -- the others, once the part at a place is this
  owns_then : (parts : List Live) (n : ℕ) (line : Option Bytes) (lines : List (Option Bytes)) (p : ℕ) (places : List ℕ) (all : List (List LineReply)) (rest : List LineReply) (u : Live)
      → length all ≡ length parts → p < length parts → AreAllOwn bytes parts now n (line ∷ lines) (p ∷ places) all
      → AreOwnAnswered p u (n + 1) lines places rest (part_at bytes now p)
      → AreAllOwn bytes (slice_set parts p u) now (n + 1) lines places (slice_set all p rest)
  owns_then parts n line lines p places all rest u long at owns one k l = by (same_or_not k p)
    where
      by : (k ≡ p) ⊎ (k ≢ p) → AreOwnAnswered k (part_at bytes (slice_set parts p u) k) (n + 1) lines places (slice_index_or (slice_set all p rest) k []) (part_at bytes now k)
      by (inl same) =
          subst (λ (k : ℕ). AreOwnAnswered k (part_at bytes (slice_set parts p u) k) (n + 1) lines places (slice_index_or (slice_set all p rest) k []) (part_at bytes now k)) (sym same)
          (subst (λ s. AreOwnAnswered p s (n + 1) lines places (slice_index_or (slice_set all p rest) p []) (part_at bytes now p)) (sym (get_or-set_same parts p u (new_live bytes) at))
          (subst (λ answers. AreOwnAnswered p u (n + 1) lines places answers (part_at bytes now p)) (sym (get_or-set_same all p rest [] (omega (arith, at, long)))) one))
      by (inr other) =
          subst (λ s. AreOwnAnswered k s (n + 1) lines places (slice_index_or (slice_set all p rest) k []) (part_at bytes now k)) (sym (get_or-set_other parts p k u (new_live bytes) other))
          (subst (λ answers. AreOwnAnswered k (part_at bytes parts k) (n + 1) lines places answers (part_at bytes now k)) (sym (get_or-set_other all p k rest [] other))
          (others_answered k p other (part_at bytes parts k) (part_at bytes now k) n line lines places (slice_index_or all k []) (owns k (subst (λ (m : ℕ). k < m) (length-set parts p u) l))))

  whole : PartsAnswerForTheWhole → (parts : List Live) (n : ℕ) (lines : List (Option Bytes)) (places : List ℕ) (all : List (List LineReply)) (answers : List LineReply)
      → AreParts bytes parts → length now ≡ length parts → length all ≡ length parts → ArePlaced (length parts) lines places
      → AreAllOwn bytes parts now n lines places all → AreGathered places all answers → IsWhole bytes parts now n lines answers
  whole law parts n lines places all [] are long all_long placed owns gathered = none_gathered parts n lines places all are long placed owns
  whole law parts n [] [] all (a ∷ answers) are long all_long placed owns gathered = elim gathered [ ]
  whole law parts n [] (p ∷ places) all (a ∷ answers) are long all_long placed owns gathered = absurd placed
  whole law parts n (line ∷ lines) [] all (a ∷ answers) are long all_long placed owns gathered = absurd placed
  whole law parts n (line ∷ lines) (p ∷ places) all (a ∷ answers) are long all_long placed owns (takes {rest} is more) =
      let at : p < length parts = placed.0 in
      let one = first_answered p (part_at bytes parts p) (part_at bytes now p) n line lines places (slice_index_or all p []) a rest (owns p at) is in
      let step = law bytes parts p n line a one.0 are at placed.1 (placed.2 (part_at bytes parts p)) (placed.2 (joined parts)) one.1 in
      let same = length-set parts p one.0 in
      let then = whole law (slice_set parts p one.0) (n + 1) lines places (slice_set all p rest) answers step.1 (long ∙ sym same)
      (length-set all p rest ∙ all_long ∙ sym same) (subst (λ (m : ℕ). ArePlaced m lines places) (sym same) placed.3)
      (owns_then parts n line lines p places all rest one.0 all_long at owns one.2) more in
      (then.0, (joined (slice_set parts p one.0), step.0, then.1), λ whole_length. then.2 (omega (arith, whole_length)))

pub lines_for_the_whole : PartsAnswerForTheWhole → PartsAnswerLinesForTheWhole
lines_for_the_whole law bytes parts now n lines places all answers are long all_long placed owns gathered =
    whole bytes now law parts n lines places all answers are long all_long placed owns gathered
