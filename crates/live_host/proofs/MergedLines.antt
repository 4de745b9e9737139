-- Lines of several networks, each of which is answered alone, are answered together.
use Rattle.std.specs.Prelude.{◌≡◌, ◌≢◌, ◌⊎◌, ◌+◌, ◌≤◌, ◌<◌, ◌==◌, ◌++◌, ◌∷◌, ◌||◌, [], ℕ, Bool, true, false, cond, length, List, Option, Some, None, if◌then◌else◌}
use Rattle.std.specs.Ordering.{is_eq, nat_cmp}
use Rattle.std.specs.BTreeMap.{is_at}
use Rattle.std.specs.Map.{lookup}
use Rattle.std.proofs.Common.{◌∙◌, refl, sym, ap, subst, inl, inr, arith, true≢false}
use Rattle.std.proofs.lemmas.Bool.Decides.{Decides-eqb}
use Rattle.scp_spec.specs.Sets.{among}
use Rattle.line_script.specs.Script.{Bytes}
use Rattle.live_feed.specs.Served.{LineReply, ServesAll, journal_line}
use Rattle.live_feed.specs.Served.ServesAll.{next, none}
use Rattle.live_feed.specs.WholeLines.{given}
use Rattle.line_request.specs.Outlines.{waiting_at}
use Rattle.live_host.specs.Apart.{AreFrom, IsOrdered, OthersStay, alone}
use Rattle.live_host.specs.Futures.{AreAlike, behind_number}
use Rattle.live_host.specs.Hosts.{Live, Serves, live_at, new_live}
use Rattle.live_host.specs.Merging.{AreLinesOf, HasRoomToDeclare, LinesMayBeMerged, RunsAlone, all_lines, lines_for}
use Rattle.live_host.specs.Merging.RunsAlone.{next_line, none_left}
use Rattle.live_host.proofs.Alone.{at-itself, found-alone, none-below, skipped}
use Rattle.live_host.proofs.ApartLines.{hosts_stay_ordered, lines_are_answered_where_room_is}
use Rattle.live_host.proofs.ApartRuns.{alike-after, alone-alike, begins-alike, begins-ordered, is-kept}
use Rattle.live_host.proofs.Numbers.{numbers_stand_in_front}

-- the first entry is found by its number
first-found : {X : Type 0} (g : ℕ) (x : X) (es : List (ℕ × X)) → lookup (is_at (nat_cmp g)) ((g, x) ∷ es) ≡ Some x
first-found g x es = ap (λ o. cond (is_eq o) (Some x) (lookup (is_at (nat_cmp g)) es)) (at-itself g)

-- ---- numbers that are no more than others
-- without the first that is this one
abbrev but_one : ℕ → List ℕ → List ℕ
but_one x [] = []
but_one x (y ∷ ys) = cond (y == x) ys (y ∷ but_one x ys)

-- that is one less
but-one-is-less : (x : ℕ) (ys : List ℕ) → among ys x ≡ true → length ys ≡ length (but_one x ys) + 1
but-one-is-less x [] is = absurd (true≢false (sym is))
but-one-is-less x (y ∷ ys) is = by (y == x) (but-one-is-less x ys) is
  where
    by : (same : Bool) → (among ys x ≡ true → length ys ≡ length (but_one x ys) + 1) → (same || among ys x) ≡ true
        → length (y ∷ ys) ≡ length (cond same ys (y ∷ but_one x ys)) + 1
    by true less is = omega arith
    by false less is = omega (arith, less is)

-- the others are among them still
others-are-left : (x z : ℕ) (ys : List ℕ) → z ≢ x → among ys z ≡ true → among (but_one x ys) z ≡ true
others-are-left x z [] differ is = is
others-are-left x z (y ∷ ys) differ is = by (y == x) refl (y == z) refl is (others-are-left x z ys differ)
  where
    by : (one : Bool) → (y == x) ≡ one → (other : Bool) → (y == z) ≡ other → (other || among ys z) ≡ true
        → (among ys z ≡ true → among (but_one x ys) z ≡ true) → among (cond one ys (y ∷ but_one x ys)) z ≡ true
    by true one true other is rest = absurd (differ (sym ((Decides-eqb y z).0 other) ∙ (Decides-eqb y x).0 one))
    by true one false other is rest = is
    by false one true other is rest = ap (λ b. b || among (but_one x ys) z) other
    by false one false other is rest = ap (λ b. b || among (but_one x ys) z) other ∙ rest is

not-empty : (x : ℕ) (ys : List ℕ) → among ys x ≡ true → 0 < length ys
not-empty x [] is = absurd (true≢false (sym is))
not-empty x (y ∷ ys) is = omega arith

-- where there is an entry of a number, the number is among these
abbrev AreAmong : {X : Type 0} → List ℕ → List (ℕ × X) → Type 0
AreAmong names es = (g : ℕ) → (lookup (is_at (nat_cmp g)) es ≡ None) ⊎ (among names g ≡ true)

found-among : {X : Type 0} (names : List ℕ) (g : ℕ) (x : X) (o : Option X) → o ≡ Some x → (o ≡ None) ⊎ (among names g ≡ true)
    → among names g ≡ true
found-among names g x o some (inl absent) = absurd (cc)
found-among names g x o some (inr is) = is

-- those of which there is no entry are among the rest
abbrev AreFitted : {X : Type 0} → List ℕ → List (ℕ × X) → Type 0
AreFitted names es =
    (rest : List ℕ) × (length names ≡ length es + length rest)
    × ((g : ℕ) → lookup (is_at (nat_cmp g)) es ≡ None → among names g ≡ true → among rest g ≡ true)

among-rest : {X : Type 0} (names : List ℕ) (e : ℕ × X) (es : List (ℕ × X)) → AreFrom (e.0 + 1) es
    → AreAmong names (e ∷ es) → AreAmong (but_one e.0 names) es
among-rest names e es ascend are g = by (g == e.0) refl
  where
    there : g ≢ e.0 → (lookup (is_at (nat_cmp g)) (e ∷ es) ≡ None) ⊎ (among names g ≡ true)
        → (lookup (is_at (nat_cmp g)) es ≡ None) ⊎ (among (but_one e.0 names) g ≡ true)
    there differ (inl absent) = inl (sym (skipped g e.0 e.1 (lookup (is_at (nat_cmp g)) es) differ) ∙ absent)
    there differ (inr is) = inr (others-are-left e.0 g names differ is)

    by : (same : Bool) → (g == e.0) ≡ same
        → (lookup (is_at (nat_cmp g)) es ≡ None) ⊎ (among (but_one e.0 names) g ≡ true)
    by true is =
        let same : g ≡ e.0 = (Decides-eqb g e.0).0 is in
        inl (none-below g (e.0 + 1) es ascend (omega arith))
    by false is = there (λ same. true≢false (sym ((Decides-eqb g e.0).1 same) ∙ is)) (are g)

fitted : {X : Type 0} (k : ℕ) (es : List (ℕ × X)) (names : List ℕ) → AreFrom k es → AreAmong names es → AreFitted names es
fitted k [] names ascend are = (names, omega arith, λ g absent is. is)
fitted {X} k (e ∷ es) names ascend are =
    let here = found-among names e.0 e.1 _ (first-found e.0 e.1 es) (are e.0) in
    let less = but-one-is-less e.0 names here in
    let rest = fitted (e.0 + 1) es (but_one e.0 names) ascend.1 (among-rest names e es ascend.1 are) in
    let count = rest.1 in (
      rest.0,
      omega (arith, less, count),
      λ g absent is.
          let differ = differs g absent in
          rest.2 g (sym (skipped g e.0 e.1 (lookup (is_at (nat_cmp g)) es) differ) ∙ absent)
          (others-are-left e.0 g names differ is),
    )
  where
    found : (o : Option X) → o ≡ Some e.1 → o ≡ None → ⊥
    found o some absent = cc

    differs : (g : ℕ) → lookup (is_at (nat_cmp g)) (e ∷ es) ≡ None → g ≢ e.0
    differs g absent same = found _ (first-found e.0 e.1 es) (subst (λ h. lookup (is_at (nat_cmp h)) (e ∷ es) ≡ None) same absent)

-- ---- hosts with room
-- each network that is declared is among these
abbrev AreDeclaredAmong : List ℕ → Live → Type 0
AreDeclaredAmong names l =
    (g : ℕ) → ((waiting_at l.waiting g ≡ None) × (live_at l g ≡ None)) ⊎ (among names g ≡ true)

has-room : (names : List ℕ) (g : ℕ) (l : Live) → IsOrdered l → AreDeclaredAmong names l → length names ≤ 4096
    → among names g ≡ true → HasRoomToDeclare g l
has-room names g l ordered declared few its waits runs =
    let one = fitted 0 l.waiting names ordered.waiting (λ h. waiting h (declared h)) in
    let two =
    fitted 0 l.running one.0 ordered.running (λ h. running h one.0 (one.2 h) (declared h) (ordered.apart h)) in
    let more = not-empty g two.0 (two.2 g runs (one.2 g waits its)) in
    omega (arith, one.1, two.1, more)
  where
    waiting : (h : ℕ) → ((waiting_at l.waiting h ≡ None) × (live_at l h ≡ None)) ⊎ (among names h ≡ true)
        → (waiting_at l.waiting h ≡ None) ⊎ (among names h ≡ true)
    waiting h (inl absent) = inl absent.0
    waiting h (inr is) = inr is

    running : (h : ℕ) (rest : List ℕ)
        → (waiting_at l.waiting h ≡ None → among names h ≡ true → among rest h ≡ true)
        → ((waiting_at l.waiting h ≡ None) × (live_at l h ≡ None)) ⊎ (among names h ≡ true)
        → (waiting_at l.waiting h ≡ None) ⊎ (live_at l h ≡ None) → (live_at l h ≡ None) ⊎ (among rest h ≡ true)
    running h rest left (inl absent) apart = inl absent.1
    running h rest left (inr is) (inl absent) = inr (left absent is)
    running h rest left (inr is) (inr absent) = inl absent

still-declared : (names : List ℕ) (g : ℕ) (l t : Live) → AreDeclaredAmong names l → among names g ≡ true → OthersStay g l t
    → AreDeclaredAmong names t
still-declared names g l t declared its others h = by (h == g) refl
  where
    there : h ≢ g → ((waiting_at l.waiting h ≡ None) × (live_at l h ≡ None)) ⊎ (among names h ≡ true)
        → ((waiting_at t.waiting h ≡ None) × (live_at t h ≡ None)) ⊎ (among names h ≡ true)
    there differ (inl absent) = inl (
      sym (found-alone h t.waiting) ∙ ap (λ x. waiting_at x.waiting h) (others h differ) ∙ found-alone h l.waiting ∙ absent.0,
      sym (found-alone h t.running) ∙ ap (λ x. live_at x h) (others h differ) ∙ found-alone h l.running ∙ absent.1,
    )
    there differ (inr is) = inr is

    by : (same : Bool) → (h == g) ≡ same
        → ((waiting_at t.waiting h ≡ None) × (live_at t h ≡ None)) ⊎ (among names h ≡ true)
    by true is = inr (ap (among names) ((Decides-eqb h g).0 is) ∙ its)
    by false is = there (λ same. true≢false (sym ((Decides-eqb h g).1 same) ∙ is)) (declared h)

-- ---- one line after the other
ended : {longest g : ℕ} {l t : Live} → RunsAlone longest g l [] t → l ≡ t
ended none_left = refl

-- the first line of a network, which is answered alone, is answered next to others, with any number
abbrev IsPlaced : ℕ → ℕ → ℕ → Live → Bytes → List Bytes → Live → Type 0
IsPlaced longest g n l line lines new =
    (a : LineReply) × (t : Live) × Serves l n (given longest line) a t × (journal_line (given longest line) a ≡ line)
    × RunsAlone longest g (alone g t) lines new × OthersStay g l t

placed : (longest g n : ℕ) (l : Live) (line : Bytes) (lines : List Bytes) (new : Live) → IsOrdered l → AreAlike l l
    → HasRoomToDeclare g l → RunsAlone longest g (alone g l) (line ∷ lines) new → IsPlaced longest g n l line lines new
placed longest g n l line lines new ordered alike room (next_line {now} number a d serves some is rest) =
    let by = numbers_stand_in_front (alone g l) now number (given longest line) a (alone-alike g l alike) serves in
    let b : LineReply = record { text = behind_number n by.0; done = a.done } in
    let there =
    lines_are_answered_where_room_is l now n (given longest line) b d ordered
    (subst (λ h. HasRoomToDeclare h l) (sym is) room)
    (subst (λ h. Serves (alone h l) n (given longest line) b now) (sym is) (by.2 n)) some in (
      b,
      there.0,
      there.1,
      is-kept longest l there.0 n line b d there.1 some,
      subst (λ s. RunsAlone longest g s lines new) (sym (subst (λ h. alone h there.0 ≡ now) is there.2)) rest,
      subst (λ h. OthersStay h l there.0) is there.3,
    )

-- each network has its lines yet to come
abbrev RunYet : ℕ → Live → List (ℕ × Bytes) → (ℕ → Live) → Type 0
RunYet longest l lines own = (g : ℕ) → RunsAlone longest g (alone g l) (lines_for g lines) (own g)

run-yet : (longest : ℕ) (l t : Live) (e : ℕ × Bytes) (es : List (ℕ × Bytes)) (own : ℕ → Live)
    → RunYet longest l (e ∷ es) own → RunsAlone longest e.0 (alone e.0 t) (lines_for e.0 es) (own e.0)
    → OthersStay e.0 l t → RunYet longest t es own
run-yet longest l t e es own runs its others h = by (e.0 == h) refl (runs h)
  where
    by : (same : Bool) → (e.0 == h) ≡ same
        → RunsAlone longest h (alone h l) (if same then e.1 ∷ lines_for h es else lines_for h es) (own h)
        → RunsAlone longest h (alone h t) (lines_for h es) (own h)
    by true is run = subst (λ k. RunsAlone longest k (alone k t) (lines_for k es) (own k)) ((Decides-eqb e.0 h).0 is) its
    by false is run =
        subst (λ s. RunsAlone longest h s (lines_for h es) (own h))
        (sym (others h (λ same. true≢false (sym ((Decides-eqb e.0 h).1 (sym same)) ∙ is)))) run

its-run : (longest : ℕ) (l : Live) (e : ℕ × Bytes) (es : List (ℕ × Bytes)) (own : ℕ → Live) → RunYet longest l (e ∷ es) own
    → RunsAlone longest e.0 (alone e.0 l) (e.1 ∷ lines_for e.0 es) (own e.0)
its-run longest l e es own runs =
    subst
    (λ b. RunsAlone longest e.0 (alone e.0 l) (if b then e.1 ∷ lines_for e.0 es else lines_for e.0 es) (own e.0))
    ((Decides-eqb e.0 e.0).1 refl) (runs e.0)

merged : (longest n : ℕ) (l : Live) (lines : List (ℕ × Bytes)) (names : List ℕ) (own : ℕ → Live) → IsOrdered l
    → AreAlike l l → AreDeclaredAmong names l → AreLinesOf names lines → length names ≤ 4096 → RunYet longest l lines own
    → (text : Bytes) × (t : Live) × ServesAll Serves longest l n (all_lines lines) (all_lines lines) text t
    × ((g : ℕ) → alone g t ≡ own g)
merged longest n l [] names own ordered alike declared of few runs = ([], l, none, λ g. ended (runs g))
merged longest n l (e ∷ es) names own ordered alike declared of few runs =
    let here =
    placed longest e.0 n l e.1 (lines_for e.0 es) (own e.0) ordered alike
    (has-room names e.0 l ordered declared few of.0) (its-run longest l e es own runs) in
    let line = given longest e.1 in
    let rest =
    merged longest (n + 1) here.1 es names own (hosts_stay_ordered l here.1 n line here.0 ordered here.2)
    (alike-after l here.1 n line here.0 alike here.2) (still-declared names e.0 l here.1 declared of.0 here.5) of.1 few
    (run-yet longest l here.1 e es own runs here.4 here.5) in (
      here.0.text ++ rest.0,
      rest.1,
      subst
          (λ kept. ServesAll Serves longest l n (e.1 ∷ all_lines es) (kept ∷ all_lines es) (here.0.text ++ rest.0) rest.1)
          here.3 (next here.0 here.2 rest.2),
      rest.3,
    )

pub lines_may_be_merged : LinesMayBeMerged
lines_may_be_merged longest bytes n lines names own of few runs =
    merged longest n (new_live bytes) lines names own (begins-ordered bytes) (begins-alike bytes)
    (λ g. inl (refl, refl)) of few runs
