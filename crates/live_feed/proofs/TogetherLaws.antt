-- Lines that are read, answered and served together.
use Rattle.std.proofs.Common.{◌≡◌, inl, inr, ◌∙◌, ℕ, zero, suc, ◌+◌, ◌^◌, ◌<◌, ◌≤◌, Bool, true, false, List, [], ◌∷◌, ◌++◌, length, map, get_or, take, drop, refl, sym, ap, subst, arith}
use Rattle.std.specs.Prelude.{Option, Some, None, Result, Ok, Err}
use Rattle.std.specs.Io.KnownBytes.{Keeps}
use Rattle.std.proofs.lemmas.List.{drop_all, get_or-map, get_or-take, length-map, length-take}
use Rattle.line_script.specs.Script.{Bytes}
use Rattle.line_script.specs.declared.input.ReadError.{ReadError}
use Rattle.live_feed.specs.Reading.{AreNextLines, HasGathered, HeldLine, IsNextLine, IsReadTo, given_of, nothing_held}
use Rattle.live_feed.specs.Served.{AreAnswered, LineReply, Serving}
use Rattle.live_feed.specs.Acts.{Act}
use Rattle.live_feed.specs.Faults.{fault_of_read}
use Rattle.live_feed.specs.Hosted.{HasDone, HasHostedStream, IsEndedBy}
use Rattle.live_feed.specs.Steps.{HasServedLine, HasServedLines, HasTold}
use Rattle.live_feed.specs.declared.fault.Fault.{Fault}
use Rattle.live_feed.specs.declared.fault.Fault.TheVariants as fault
use Rattle.live_feed.proofs.ServingLaws.{Going, Hosting, Laws, all_told, did_nothing, ended_by, ended_still, kept_going, line_more, not_told, told_then, unread, unserved}

-- ---- reading
pub next_lines_more : (longest : ℕ) (old mid new : Option Bytes) (hs : List HeldLine) (h : HeldLine) (more : Bool)
    → AreNextLines longest old mid hs → IsNextLine longest mid new h (Some more) → AreNextLines longest old new (hs ++ h ∷ [])
next_lines_more longest old mid new [] h more are next = (new, more, subst (λ r. IsNextLine longest r new h (Some more)) are next, refl)
next_lines_more longest old mid new (x ∷ xs) h more are next = (are.0, are.1, are.2, next_lines_more longest are.0 mid new xs h more are.3 next)

-- ---- answering
pub answered_more : {S : Type 0} (serves : Serving S) (s t u : S) (n : ℕ) (lines : List (Option Bytes)) (answers : List LineReply) (d : Option Bytes) (a : LineReply)
    → AreAnswered serves s n lines answers t → length answers < length lines → serves t (n + length answers) (get_or lines (length answers) d) a u
    → AreAnswered serves s n lines (answers ++ a ∷ []) u
answered_more serves s t u n [] [] d a are l one = absurd (omega (arith, l))
answered_more serves s t u n [] (b ∷ bs) d a are l one = absurd are
answered_more serves s t u n (x ∷ xs) [] d a are l one =
    let same : n + 0 ≡ n = omega arith in
    (u, subst (λ (m : ℕ). serves s m x a u) same (subst (λ v. serves v (n + 0) x a u) are one), refl)
answered_more serves s t u n (x ∷ xs) (b ∷ bs) d a are l one =
    let same : n + suc (length bs) ≡ n + 1 + length bs = omega arith in
    (are.0, are.1, answered_more serves are.0 t u (n + 1) xs bs d a are.2 (omega (arith, l)) (subst (λ (m : ℕ). serves t m (get_or xs (length bs) d) a u) same one))

pub answered_next : {S : Type 0} (serves : Serving S) (s t u : S) (n k : ℕ) (hs : List HeldLine) (answers : List LineReply) (h : HeldLine) (a : LineReply) → AreAnswered serves s n (map given_of hs) answers t
    → length answers ≡ k → k < length hs → get_or hs k h ≡ h → serves t (n + k) (given_of h) a u → AreAnswered serves s n (map given_of hs) (answers ++ a ∷ []) u
answered_next {S} serves s t u n k hs answers h a are long l at one =
    let is : get_or (map given_of hs) (length answers) (given_of h) ≡ given_of h = get_or-map given_of hs (length answers) h (given_of h) (omega (arith, long, l)) ∙ ap given_of (ap (λ (m : ℕ). get_or hs m h) long ∙ at) in
    answered_more serves s t u n (map given_of hs) answers (given_of h) a are (omega (arith, long, l, length-map hs given_of))
    (subst (λ v. serves t (n + length answers) v a u) (sym is) (subst (λ (m : ℕ). serves t (n + m) (given_of h) a u) (sym long) one))

-- of a beginning of lines: of all of them
pub answered_first : {S : Type 0} (serves : Serving S) (s t : S) (n k : ℕ) (hs : List HeldLine) (answers : List LineReply)
    → AreAnswered serves s n (map given_of (take k hs)) answers t → AreAnswered serves s n (map given_of hs) answers t
answered_first serves s t n k hs [] are = are
answered_first serves s t n zero [] (a ∷ answers) are = absurd are
answered_first serves s t n zero (h ∷ hs) (a ∷ answers) are = absurd are
answered_first serves s t n (suc k) [] (a ∷ answers) are = absurd are
answered_first serves s t n (suc k) (h ∷ hs) (a ∷ answers) are = (are.0, are.1, answered_first serves are.0 t (n + 1) k hs answers are.2)

pub few_answers : {S : Type 0} (serves : Serving S) (s t : S) (n : ℕ) (lines : List (Option Bytes)) (answers : List LineReply)
    → AreAnswered serves s n lines answers t → length answers ≤ length lines
few_answers serves s t n lines [] are = omega arith
few_answers serves s t n [] (a ∷ answers) are = absurd are
few_answers serves s t n (x ∷ lines) (a ∷ answers) are = let few = few_answers serves are.0 t (n + 1) lines answers are.2 in omega (arith, few)

-- ---- serving
pub keeps_refl : (o : Option Bytes) → Keeps o o
keeps_refl None = tt
keeps_refl (Some x) = refl

pub keeps_both : (o p q : Option Bytes) → Keeps o p → Keeps p q → Keeps o q
keeps_both None p q a b = tt
keeps_both (Some x) None q a b = absurd a
keeps_both (Some x) (Some y) None a b = absurd b
keeps_both (Some x) (Some y) (Some z) a b = b ∙ a

-- ---- one after the other

-- so many of these lines were dealt with, with these answers left for others; and what follows from the state that they left
pub record Left {S : Type 0} (serves : Serving S) (final : S) (c : ℕ) (all : List HeldLine) (m k : ℕ) (answers : List LineReply) (count : ℕ) (Follows : S → Type 0) : Type 0 where
  pub state : S
  pub end : S
  pub follows : Follows state
  pub answered : AreAnswered serves state (count + 1) (map given_of (drop k all)) answers end
  pub left : length answers + k ≤ m
  pub last : length answers + k ≡ m → end ≡ final
  pub counted : count ≡ c + k

pub left_at_first : {S : Type 0} (serves : Serving S) (s t final : S) (c : ℕ) (all : List HeldLine) (m : ℕ) (answers : List LineReply) (Follows : S → Type 0)
    → AreAnswered serves s (c + 1) (map given_of (take m all)) answers t → m ≤ length all → (length answers ≡ m → t ≡ final) → Follows s → Left serves final c all m 0 answers c Follows
left_at_first serves s t final c all m answers Follows are l same follows = record {
  state = s;
  end = t;
  follows = follows;
  answered = answered_first serves s t (c + 1) m all answers are;
  left = let few = few_answers serves s t (c + 1) (map given_of (take m all)) answers are in omega (arith, few, l, length-map (take m all) given_of, length-take m all);
  last = λ h. same (omega (arith, h));
  counted = omega arith;
}

pub dropped : (k : ℕ) (xs : List HeldLine) (h : HeldLine) → k < length xs → get_or xs k h ≡ h → drop k xs ≡ h ∷ drop (k + 1) xs
dropped k [] h l is = absurd (omega (arith, l))
dropped zero (x ∷ xs) h l is = ap (λ y. y ∷ xs) is
dropped (suc k) (x ∷ xs) h l is = let same : suc k + 1 ≡ suc (k + 1) = omega arith in dropped k xs h (omega (arith, l)) is ∙ ap (λ (n : ℕ). h ∷ drop n (x ∷ xs)) (sym same)

pub few_of_all : (all numbered : List HeldLine) → numbered ≡ take (length numbered) all → length numbered ≤ length all
few_of_all all numbered first = let l : length numbered ≡ length (take (length numbered) all) = ap length first in omega (arith, l, length-take (length numbered) all)

-- a line of those for which there are numbers is one of all
pub next_of_all : (all numbered : List HeldLine) (k : ℕ) (h : HeldLine) → numbered ≡ take (length numbered) all → k < length numbered → h ≡ get_or numbered k h → (get_or all k h ≡ h) × (k < length all)
next_of_all all numbered k h first l is =
    let few = few_of_all all numbered first in
    (sym (get_or-take (length numbered) all k h l) ∙ ap (λ xs. get_or xs k h) (sym first) ∙ sym is, omega (arith, l, few))

module _ {S : Type 0} (serves : Serving S) (final : S) (c : ℕ) (all : List HeldLine) (m k : ℕ) where
  -- the next line was dealt with
  pub left_next : (h : HeldLine) (a : LineReply) (answers : List LineReply) (count next : ℕ) (Follows Goes : S → Type 0) → get_or all k h ≡ h → k < length all → Left serves final c all m k (a ∷ answers) count Follows
      → ((p q : S) → serves p (count + 1) (given_of h) a q → Follows p → Goes q × (next ≡ count + 1)) → Left serves final c all m (k + 1) answers next Goes
  left_next h a answers count next Follows Goes at l r step =
      let are : AreAnswered serves r.state (count + 1) (map given_of (h ∷ drop (k + 1) all)) (a ∷ answers) r.end = subst (λ hs. AreAnswered serves r.state (count + 1) (map given_of hs) (a ∷ answers) r.end) (dropped k all h l at) r.answered in
      let on = step r.state are.0 are.1 r.follows in
      record {
        state = are.0;
        end = r.end;
        follows = on.0;
        answered = subst (λ (n : ℕ). AreAnswered serves are.0 (n + 1) (map given_of (drop (k + 1) all)) answers r.end) (sym on.1) are.2;
        left = let few = r.left in omega (arith, few);
        last = λ q. r.last (omega (arith, q));
        counted = omega (arith, on.1, r.counted);
      }

  -- all lines were dealt with that were answered
  pub left_end : (answers : List LineReply) (count : ℕ) (Follows : S → Type 0) → k ≡ m → Left serves final c all m k answers count Follows → Follows final
  left_end [] count Follows q r = let zero_more : 0 + k ≡ m = omega (arith, q) in subst Follows (sym r.answered ∙ r.last zero_more) r.follows
  left_end (a ∷ answers) count Follows q r = let few = r.left in absurd (omega (arith, q, few))

pub at_self : (xs : List HeldLine) (k : ℕ) (d : HeldLine) → k < length xs → get_or xs k (get_or xs k d) ≡ get_or xs k d
at_self [] k d l = absurd (omega (arith, l))
at_self (x ∷ xs) zero d l = refl
at_self (x ∷ xs) (suc k) d l = at_self xs k d (omega (arith, l))

-- ---- serving one after the other

-- what is served behind so many of these lines is served behind all
abbrev pub Follows : {S : Type 0} → Serving S → S → ℕ → List HeldLine → Bytes → Option (List Act) → ℕ → ℕ → Bytes → Option (List Act) → S → Type 0
Follows {S} serves s c all waits acts k count now done state =
    (new : Option (List Act)) (result : Result (Unit {0}) Fault) (later : Bytes) (e : ℕ) (u : S)
    → HasServedLines serves state count (map given_of (drop k all)) now done new result later e u → HasServedLines serves s c (map given_of all) waits acts new result later e u

-- so many of these lines were served, with these answers left for others
abbrev pub Rest : {S : Type 0} → Serving S → S → ℕ → List HeldLine → Bytes → Option (List Act) → ℕ → S → ℕ → List LineReply → ℕ → Bytes → Option (List Act) → Type 0
Rest serves s c all waits acts m final k answers count now done = Left serves final c all m k answers count (Follows serves s c all waits acts k count now done)

pub rest_at_first : {S : Type 0} (serves : Serving S) (s t final : S) (c : ℕ) (all : List HeldLine) (waits : Bytes) (acts : Option (List Act)) (m : ℕ) (answers : List LineReply)
    → AreAnswered serves s (c + 1) (map given_of (take m all)) answers t → m ≤ length all → (length answers ≡ m → t ≡ final) → Rest serves s c all waits acts m final 0 answers c waits acts
rest_at_first serves s t final c all waits acts m answers are l same =
    left_at_first serves s t final c all m answers (Follows serves s c all waits acts 0 c waits acts) are l same (λ new result later e u h. h)

module _ {S : Type 0} (serves : Serving S) (s final : S) (c : ℕ) (all : List HeldLine) (waits : Bytes) (acts : Option (List Act)) (m k : ℕ) (count : ℕ) (now : Bytes) (done : Option (List Act)) where
  -- all lines were served
  pub rest_all : (answers : List LineReply) → k ≡ m → Rest serves s c all waits acts m final k answers count now done → length all ≤ k → HasServedLines serves s c (map given_of all) waits acts done (Ok tt) now count final
  rest_all answers q r l =
      left_end serves final c all m k answers count (Follows serves s c all waits acts k count now done) q r done (Ok tt) now count final
      (subst (λ hs. HasServedLines serves final count (map given_of hs) now done done (Ok tt) now count final) (sym (drop_all k all l)) (refl, refl, refl, refl, refl))

  -- there is no number for the next line
  pub rest_unnumbered : (answers : List LineReply) → k ≡ m → Rest serves s c all waits acts m final k answers count now done → k < length all → c + m + 1 ≡ 2 ^ 64
      → HasServedLines serves s c (map given_of all) waits acts done (Err fault.TooLong) now count final
  rest_unnumbered answers q r l full =
      let is = dropped k all (get_or all k nothing_held) l (at_self all k nothing_held l) in
      left_end serves final c all m k answers count (Follows serves s c all waits acts k count now done) q r done (Err fault.TooLong) now count final
      (subst (λ hs. HasServedLines serves final count (map given_of hs) now done done (Err fault.TooLong) now count final) (sym is)
      (inr (fault.TooLong, refl, (refl, did_nothing done, refl, omega (arith, q, full, r.counted)))))

module _ {S : Type 0} (serves : Serving S) (s final : S) (c : ℕ) (all : List HeldLine) (waits : Bytes) (acts : Option (List Act)) (m k : ℕ) (count : ℕ) (now : Bytes) (done : Option (List Act)) (h : HeldLine) (at : get_or all k h ≡ h) where
  -- the next line was served
  pub rest_next : (a : LineReply) (answers : List LineReply) (mid : Option (List Act)) (later : Bytes) (e : ℕ) → Rest serves s c all waits acts m final k (a ∷ answers) count now done
      → k < length all → ((p q : S) → serves p (count + 1) (given_of h) a q → HasServedLine serves p count (given_of h) now done mid (Ok tt) later e q)
      → Rest serves s c all waits acts m final (k + 1) answers e later mid
  rest_next a answers mid later e r l settled =
      left_next serves final c all m k h a answers count e (Follows serves s c all waits acts k count now done) (Follows serves s c all waits acts (k + 1) e later mid) at l r (λ p q one follows.
      let on = settled p q one in (
        λ new result after n u more. follows new result after n u (subst (λ hs. HasServedLines serves p count (map given_of hs) now done new result after n u) (sym (dropped k all h l at)) (inl (later, e, mid, q, on, more))),
        on.3,
      ))

  -- the next line was not served
  pub rest_stops : (answers : List LineReply) (new : Option (List Act)) (why : Fault) (later : Bytes) (e : ℕ) (u : S) → (r : Rest serves s c all waits acts m final k answers count now done)
      → k < length all → HasServedLine serves r.state count (given_of h) now done new (Err why) later e u → HasServedLines serves s c (map given_of all) waits acts new (Err why) later e u
  rest_stops answers new why later e u r l one =
      r.follows new (Err why) later e u (subst (λ hs. HasServedLines serves r.state count (map given_of hs) now done new (Err why) later e u) (sym (dropped k all h l at)) (inr (why, refl, one)))

  -- there was no memory for its answer
  pub rest_lacks : Rest serves s c all waits acts m final k [] count now done → k < length all → (u : S) → HasServedLines serves s c (map given_of all) waits acts done (Err fault.NoMemory) now count u
  rest_lacks r l u = rest_stops [] done fault.NoMemory now count u r l (refl, did_nothing done)

-- what becomes of a stream by lines that are served, until one is not
pub record Ended {S : Type 0} (serves : Serving S) (longest : ℕ) (s : S) (n : ℕ) (input : Option Bytes)
    (oa na : Option (List Act)) (ot nt : Option Bytes) (after : Bytes) (u : S) (why : Fault) : Type 0 where
  pub part : Bytes
  pub state : S
  pub count : ℕ
  pub hosting : Hosting serves longest s n input oa na ot nt part after state count
  pub ended : IsEndedBy why (count + 1) part [] state u

abbrev pub GoesOn : {S : Type 0} → Serving S → ℕ → S → ℕ → Option Bytes → Option Bytes → Option (List Act) → Option (List Act) → Option Bytes → Option Bytes
    → Result (Unit {0}) Fault → Bytes → S → ℕ → Type 0
GoesOn serves longest s n input now oa na ot nt (Ok tt) after u d = Going serves longest s n input now oa na ot nt after u d
GoesOn serves longest s n input now oa na ot nt (Err why) after u d = Ended serves longest s n input oa na ot nt after u why

pub lines_served : {S : Type 0} (serves : Serving S) (longest : ℕ) (s : S) (n : ℕ) (input mid now : Option Bytes) (oa ma na : Option (List Act)) (ot nt : Option Bytes)
    (waits after : Bytes) (t u : S) (count d : ℕ) (hs : List HeldLine) (result : Result (Unit {0}) Fault)
    → Going serves longest s n input mid oa ma ot nt waits t count → AreNextLines longest mid now hs
    → HasServedLines serves t count (map given_of hs) waits ma na result after d u → GoesOn serves longest s n input now oa na ot nt result after u d
lines_served {S} serves longest s n input mid now oa ma na ot nt waits after t u count d [] result g are served =
    subst (λ r. GoesOn serves longest s n input now oa na ot nt r after u d) (sym served.0)
    (subst (λ w. Going serves longest s n input now oa na ot nt w u d) (sym served.1)
    (subst (λ m. Going serves longest s n input m oa na ot nt waits u d) (sym are)
    (subst (λ (m : Option (List Act)). Going serves longest s n input mid oa m ot nt waits u d) (sym served.2)
    (subst (λ (c : ℕ). Going serves longest s n input mid oa ma ot nt waits u c) (sym served.3)
    (subst (λ v. Going serves longest s n input mid oa ma ot nt waits v count) (sym served.4) g)))))
lines_served {S} serves longest s n input mid now oa ma na ot nt waits after t u count d (h ∷ hs) result g are (inl one) =
    lines_served serves longest s n input are.0 now oa one.2 na ot nt one.0 after one.3 u one.1 d hs result
    (line_more serves longest s n input mid are.0 oa ma one.2 ot nt nt waits one.0 t one.3 count one.1 h are.1 g are.2 one.4 (keeps_refl nt)) are.3 one.5
lines_served {S} serves longest s n input mid now oa ma na ot nt waits after t u count d (h ∷ hs) result g are (inr end) =
    let un = unserved serves longest s n input mid are.0 oa ma na ot nt nt waits after t u count d h are.1 end.0 g are.2 end.2 (keeps_refl nt) in
    subst (λ r. GoesOn serves longest s n input now oa na ot nt r after u d) (sym end.1)
    (record { part = un.0; state = t; count = count; hosting = un.1; ended = un.2 })

-- what is read at a time was served
pub served_on : {S : Type 0} (serves : Serving S) (longest : ℕ) (s : S) (n : ℕ) (input mid new : Option Bytes) (oa ma na : Option (List Act)) (ot mt nt : Option Bytes)
    (waits after : Bytes) (t u : S) (count d : ℕ) (hs : List HeldLine) (read : Result Bool ReadError) (result : Result (Unit {0}) Fault)
    → Going serves longest s n input mid oa ma ot mt waits t count → HasGathered longest mid new hs read → HasServedLines serves t count (map given_of hs) waits ma na result after d u → Keeps mt nt
    → (now : Option Bytes) × IsReadTo longest now new read × GoesOn serves longest s n input now oa na ot nt result after u d
served_on serves longest s n input mid new oa ma na ot mt nt waits after t u count d hs read result g gathered served keeps = (
  gathered.0,
  gathered.2,
  lines_served serves longest s n input mid gathered.0 oa ma na ot nt waits after t u count d hs result
      (kept_going serves longest s n input mid oa ma ot mt nt waits t count g keeps) gathered.1 served,
)

pub told_not : {S : Type 0} (serves : Serving S) (longest : ℕ) → Laws serves → (s : S) (n : ℕ) (input now left : Option Bytes) (oa ma na : Option (List Act)) (ot mt nt : Option Bytes)
    (waits after : Bytes) (u v : S) (d : ℕ) (result : Result (Unit {0}) Fault) (why : Fault) → GoesOn serves longest s n input now oa ma ot mt result waits u d
    → HasTold waits ma na mt nt (Err why) after → HasHostedStream serves longest s n input left (HasDone oa na ot nt) (Err why) v
told_not serves longest laws s n input now left oa ma na ot mt nt waits after u v d (Ok tt) why g told =
    not_told serves longest laws s n input left oa ma na ot mt nt [] waits after u v d why g.hosting told
told_not serves longest laws s n input now left oa ma na ot mt nt waits after u v d (Err other) why g told =
    not_told serves longest laws s n input left oa ma na ot mt nt g.part waits after g.state v g.count why g.hosting told

pub not_served : {S : Type 0} (serves : Serving S) (longest : ℕ) → Laws serves → (s : S) (n : ℕ) (input now left : Option Bytes) (oa ma na : Option (List Act)) (ot mt nt : Option Bytes)
    (waits after : Bytes) (u v : S) (d : ℕ) (result : Result (Unit {0}) Fault) (why : Fault) → v ≡ u → GoesOn serves longest s n input now oa ma ot mt result waits u d → result ≡ Err why
    → HasTold waits ma na mt nt (Ok tt) after → HasHostedStream serves longest s n input left (HasDone oa na ot nt) (Err why) v
not_served serves longest laws s n input now left oa ma na ot mt nt waits after u v d result why same on is told =
    let g : Ended serves longest s n input oa ma ot mt waits u why = subst (λ r. GoesOn serves longest s n input now oa ma ot mt r waits u d) is on in
    ended_by serves longest laws s n input left oa ma na ot mt nt g.part waits after g.state v g.count why g.hosting (ended_still why (g.count + 1) g.part [] g.state u v same g.ended) told

pub not_read : {S : Type 0} (serves : Serving S) (longest : ℕ) → Laws serves → (s : S) (n : ℕ) (input now left : Option Bytes) (oa ma na : Option (List Act)) (ot mt nt : Option Bytes)
    (waits after : Bytes) (u v : S) (d : ℕ) (result : Result (Unit {0}) Fault) (read : Result Bool ReadError) (error : ReadError) → v ≡ u → GoesOn serves longest s n input now oa ma ot mt result waits u d → result ≡ Ok tt → IsReadTo longest now left read → read ≡ Err error
    → HasTold waits ma na mt nt (Ok tt) after → HasHostedStream serves longest s n input left (HasDone oa na ot nt) (Err (fault_of_read error)) v
not_read {S} serves longest laws s n input now left oa ma na ot mt nt waits after u v d result read error same on is to read_is told =
    let g : Going serves longest s n input now oa ma ot mt waits u d = subst (λ r. GoesOn serves longest s n input now oa ma ot mt r waits u d) is on in
    ended_by serves longest laws s n input left oa ma na ot mt nt [] waits after u v d (fault_of_read error) g.hosting
    (ended_still (fault_of_read error) (d + 1) [] [] u u v same (unread error (d + 1) u (subst (IsReadTo longest now left) read_is to))) told

pub reads_on : {S : Type 0} (serves : Serving S) (longest : ℕ) (s : S) (n : ℕ) (input now left : Option Bytes) (oa ma na : Option (List Act)) (ot mt nt : Option Bytes)
    (waits after : Bytes) (u v : S) (d e : ℕ) (result : Result (Unit {0}) Fault) (read : Result Bool ReadError) → v ≡ u → e ≡ d → GoesOn serves longest s n input now oa ma ot mt result waits u d → result ≡ Ok tt → IsReadTo longest now left read → read ≡ Ok true
    → HasTold waits ma na mt nt (Ok tt) after → Going serves longest s n input left oa na ot nt after v e
reads_on {S} serves longest s n input now left oa ma na ot mt nt waits after u v d e result read same counted on is to read_is told =
    let g : Going serves longest s n input now oa ma ot mt waits u d = subst (λ r. GoesOn serves longest s n input now oa ma ot mt r waits u d) is on in
    subst (λ (x : S). Going serves longest s n input left oa na ot nt after x e) (sym same)
    (subst (λ (c : ℕ). Going serves longest s n input left oa na ot nt after u c) (sym counted)
    (subst (λ m. Going serves longest s n input m oa na ot nt after u d) (sym (subst (IsReadTo longest now left) read_is to))
    (told_then serves longest s n input now oa ma na ot mt nt waits after u d g told)))

pub read_all : {S : Type 0} (serves : Serving S) (longest : ℕ) → Laws serves → (s : S) (n : ℕ) (input now left : Option Bytes) (oa ma na : Option (List Act)) (ot mt nt : Option Bytes)
    (waits after : Bytes) (u v : S) (d : ℕ) (result : Result (Unit {0}) Fault) (read : Result Bool ReadError) → v ≡ u → GoesOn serves longest s n input now oa ma ot mt result waits u d → result ≡ Ok tt → IsReadTo longest now left read → read ≡ Ok false
    → HasTold waits ma na mt nt (Ok tt) after → HasHostedStream serves longest s n input left (HasDone oa na ot nt) (Ok tt) v
read_all {S} serves longest laws s n input now left oa ma na ot mt nt waits after u v d result read same on is to read_is told =
    let g : Going serves longest s n input now oa ma ot mt waits u d = subst (λ r. GoesOn serves longest s n input now oa ma ot mt r waits u d) is on in
    let end : IsReadTo longest now left (Ok false) = subst (IsReadTo longest now left) read_is to in
    subst (λ (x : S). HasHostedStream serves longest s n input left (HasDone oa na ot nt) (Ok tt) x) (sym same)
    (all_told serves longest laws s n input now left oa ma na ot mt nt waits after u d end.0 (Ok tt) g end.1 told)
