-- A block in which the words are not found says of no want of memory.
use Rattle.std.specs.Prelude.{◌≡◌, ◌+◌, ◌<◌, ◌≤◌, ◌++◌, ◌∷◌, [], ℕ, zero, suc, Bool, true, false, length, drop, take, get_or, map, min, codes, List, Option, None}
use Rattle.std.specs.Bool.{MatchBool}
use Rattle.std.specs.Fmt.{decimal, digits}
use Rattle.std.specs.Str.Pattern.{FindsText, HasMatch}
use Rattle.std.proofs.Common.{◌∙◌, refl, sym, ap, subst, arith, drop_at, length-append, true≢false}
use Rattle.std.proofs.lemmas.List.{length-map, length-take, take-map}
use Rattle.std.proofs.lemmas.List.Elements.{All-cons, All-head, All-nil, All-tail}
use Rattle.line_script.specs.Script.{Bytes}
use Rattle.live_feed.specs.Reading.{HeldLine, given_of}
use Rattle.live_feed.specs.Served.{AreAnswered, LineReply, reply_of}
use Rattle.live_feed.specs.declared.answering.Answer.{Answer}
use Rattle.live_feed.proofs.TogetherLaws.{few_answers}
use Rattle.live_host.specs.Blocks.{TellsOfNoWant, want_of_memory}
use Rattle.live_host.specs.Hosts.{Live, Remembers, Serves}
use Rattle.scphost.specs.Remembering.{AllTellOfNoWant}

-- the words, and the line feed (10) behind them
abbrev words : Bytes
words = codes " refused 13 NoMemory" ++ 10 ∷ []

thirteen : decimal 13 ≡ 49 ∷ 51 ∷ []
unfolding digits
thirteen = refl

words-are : want_of_memory ≡ words
words-are = ap (λ n. (codes " refused " ++ (n ++ codes " NoMemory")) ++ 10 ∷ []) thirteen

not-there : (text : Bytes) → FindsText words text None → TellsOfNoWant text
not-there text none front rest is =
    let here = is ∙ ap (λ w. front ++ (w ++ rest)) words-are in
    let long = ap length here ∙ length-append front (words ++ rest) in
    none (length front) (omega (arith, long)) rest
    (ap (drop (length front)) here ∙ drop_at front (words ++ rest) (length front) refl)

pub none_found : (found : Bool) (text : Bytes)
    → MatchBool found (HasMatch (FindsText words) text) (FindsText words text None) → found ≡ false → TellsOfNoWant text
none_found true text cases is = absurd (true≢false is)
none_found false text cases is = not-there text cases

-- ---- answers up to the first that says so
pub remembered_first : (s t : Live) (n k : ℕ) (lines : List (Option Bytes)) (answers : List LineReply) → AreAnswered Serves s n lines answers t → AllTellOfNoWant (take k answers)
    → (u : Live) × AreAnswered Remembers s n lines (take k answers) u × (length answers ≤ k → u ≡ t)
remembered_first s t n zero lines [] are tell = (s, refl, λ few. sym are)
remembered_first s t n (suc k) lines [] are tell = (s, refl, λ few. sym are)
remembered_first s t n zero lines (a ∷ answers) are tell = (s, refl, λ few. absurd (omega (arith, few)))
remembered_first s t n (suc k) [] (a ∷ answers) are tell = absurd are
remembered_first s t n (suc k) (line ∷ lines) (a ∷ answers) are tell =
    let rest = remembered_first are.0 t (n + 1) k lines answers are.2 (All-tail (λ (b : LineReply). TellsOfNoWant b.text) a (take k answers) tell) in
    (rest.0, (are.0, (are.1, All-head (λ (b : LineReply). TellsOfNoWant b.text) a (take k answers) tell), rest.1), λ few. rest.2 (omega (arith, few)))

-- one more of them says nothing of it
pub told_more : (k : ℕ) (answers : List LineReply) (d : LineReply) → AllTellOfNoWant (take k answers) → k < length answers → TellsOfNoWant (get_or answers k d).text → AllTellOfNoWant (take (k + 1) answers)
told_more k [] d tell l one = absurd (omega (arith, l))
told_more zero (a ∷ answers) d tell l one = All-cons (λ (b : LineReply). TellsOfNoWant b.text) a [] one (All-nil (λ (b : LineReply). TellsOfNoWant b.text))
told_more (suc k) (a ∷ answers) d tell l one =
    let same : suc (k + 1) ≡ suc k + 1 = omega arith in
    subst (λ (m : ℕ). AllTellOfNoWant (take m (a ∷ answers))) same
    (All-cons (λ (b : LineReply). TellsOfNoWant b.text) a (take (k + 1) answers) (All-head (λ (b : LineReply). TellsOfNoWant b.text) a (take k answers) tell)
    (told_more k answers d (All-tail (λ (b : LineReply). TellsOfNoWant b.text) a (take k answers) tell) (omega (arith, l)) one))

pub remembered_batch : (s new : Live) (n k : ℕ) (lines : List HeldLine) (answers left : List (Option Answer)) → left ≡ take k answers
    → (t : Live) × AreAnswered Serves s n (map given_of lines) (map reply_of answers) t × (length answers ≡ length lines → t ≡ new) → AllTellOfNoWant (take k (map reply_of answers))
    → (u : Live) × AreAnswered Remembers s n (map given_of lines) (map reply_of left) u × (length left ≡ length lines → u ≡ new)
remembered_batch s new n k lines answers left is (t, are, last) tell =
    let first = remembered_first s t n k (map given_of lines) (map reply_of answers) are tell in
    let told : map reply_of left ≡ take k (map reply_of answers) = ap (map reply_of) is ∙ sym (take-map reply_of k answers) in
    let few = few_answers Serves s t n (map given_of lines) (map reply_of answers) are in
    let many = length-map answers reply_of in
    let lines_many = length-map lines given_of in
    let left_many : length left ≡ min k (length answers) = ap length is ∙ length-take k answers in (
      first.0,
      subst (λ rs. AreAnswered Remembers s n (map given_of lines) rs first.0) (sym told) first.1,
      λ all.
          let whole : length answers ≤ k = omega (arith, all, left_many, few, many, lines_many) in
          first.2 (omega (arith, whole, many)) ∙ last (omega (arith, all, left_many, whole, few, many, lines_many)),
    )
