-- What a part answers to a line of its place, the whole host answers.
use Rattle.std.specs.Prelude.{◌≡◌, ◌≢◌, ◌+◌, ◌<◌, ◌==◌, ℕ, Bool, true, false, length, slice_set, List, Some, None}
use Rattle.std.proofs.Common.{◌∙◌, refl, sym, ap, subst, inl, inr, arith, true≢false, ext_get_or, get_or-set_other, get_or-set_same, length-set}
use Rattle.std.proofs.lemmas.Bool.Decides.{Decides-eqb}
use Rattle.live_feed.specs.Served.{LineReply}
use Rattle.line_request.specs.declared.ask.Ask.{Ask}
use Rattle.live_host.specs.Apart.{HasRoomToAnswer, IsOrdered, OthersStay, alone}
use Rattle.live_host.specs.Hosts.{IsAskAnswered, Live, Serves, live_at, new_live}
use Rattle.live_host.proofs.Alone.{found-alone}
use Rattle.live_host.proofs.ApartAnswers.{answers_are_given_next_to_others, answers_are_local}
use Rattle.live_host.proofs.ApartHosts.{waits-as-alone}
use Rattle.live_host.proofs.ApartLines.{hosts_stay_ordered}
use Rattle.live_host.proofs.ApartShuffled.{same-by-networks}
use Rattle.live_shards.specs.Parts.{AreParts, IsHostPart, PartsAnswerForTheWhole, joined, part_at, place_of}
use Rattle.live_shards.proofs.Joined.{alone-at-place, joined-ordered, place-below}

-- ---- one part in the place of another
other-part : (bytes : Bool) (parts : List Live) (k : ℕ) (new : Live) (j : ℕ) → j ≢ k
    → part_at bytes (slice_set parts k new) j ≡ part_at bytes parts j
other-part bytes parts k new j differ = get_or-set_other parts k j new (new_live bytes) differ

pub this-part : (bytes : Bool) (parts : List Live) (k : ℕ) (new : Live) → k < length parts
    → part_at bytes (slice_set parts k new) k ≡ new
this-part bytes parts k new below = get_or-set_same parts k new (new_live bytes) below

-- what holds of the new part, and of all others, holds of each part
all-set : (P : ℕ → Live → Type 0) (bytes : Bool) (parts : List Live) (k : ℕ) (new : Live) → k < length parts → P k new
    → ((j : ℕ) → j < length parts → j ≢ k → P j (part_at bytes parts j)) → (j : ℕ) → j < length parts
    → P j (part_at bytes (slice_set parts k new) j)
all-set P bytes parts k new below here others j less = by (j == k) refl
  where
    by : (same : Bool) → (j == k) ≡ same → P j (part_at bytes (slice_set parts k new) j)
    by true is =
        subst (λ i. P i (part_at bytes (slice_set parts k new) i)) (sym ((Decides-eqb j k).0 is))
        (subst (P k) (sym (this-part bytes parts k new below)) here)
    by false is =
        let differ : j ≢ k = λ same. true≢false (sym ((Decides-eqb j k).1 same) ∙ is) in
        subst (P j) (sym (other-part bytes parts k new j differ)) (others j less differ)

same-parts : (bytes : Bool) (parts : List Live) (k : ℕ) (new : Live) → k < length parts → new ≡ part_at bytes parts k
    → slice_set parts k new ≡ parts
same-parts bytes parts k new below is =
    ext_get_or (new_live bytes) (slice_set parts k new) parts (length-set parts k new)
    (λ j less.
    all-set (λ i l. l ≡ part_at bytes parts i) bytes parts k new below is (λ i more differ. refl) j
    (subst (λ n. j < n) (length-set parts k new) less))

pub parts-set : (bytes : Bool) (parts : List Live) (k : ℕ) (new : Live) → AreParts bytes parts → k < length parts
    → new.bytes ≡ bytes → IsHostPart (length parts) k new → AreParts bytes (slice_set parts k new)
parts-set bytes parts k new are below alike part =
    let many = length-set parts k new in
    record {
      some = subst (λ n. 0 < n) (sym many) are.some;
      alike = λ j less.
          all-set (λ i l. l.bytes ≡ bytes) bytes parts k new below alike (λ i more differ. are.alike i more) j
          (subst (λ n. j < n) many less);
      each = λ j less.
          subst (λ n. IsHostPart n j (part_at bytes (slice_set parts k new) j)) (sym many)
          (all-set (IsHostPart (length parts)) bytes parts k new below part (λ i more differ. are.each i more) j
          (subst (λ n. j < n) many less));
    }

-- ---- a line that changes nothing
unchanged : (bytes : Bool) (parts : List Live) (k : ℕ) (new : Live) → AreParts bytes parts → k < length parts
    → new ≡ part_at bytes parts k
    → (joined (slice_set parts k new) ≡ joined parts) × AreParts bytes (slice_set parts k new)
unchanged bytes parts k new are below is =
    let same = same-parts bytes parts k new below is in (ap joined same, subst (AreParts bytes) (sym same) are)

-- ---- a line that asks something of a network
-- the part as it is afterwards has networks of its place alone
still-part : (bytes : Bool) (parts : List Live) (k g : ℕ) (new : Live) → AreParts bytes parts → k < length parts
    → place_of (length parts) g ≡ k → IsOrdered new → OthersStay g (part_at bytes parts k) new
    → AreParts bytes (slice_set parts k new)
still-part bytes parts k g new are below place ordered stay =
    parts-set bytes parts k new are below
    (ap (λ l. l.bytes) (stay (g + 1) (omega arith)) ∙ are.alike k below)
    (record {
      ordered = ordered;
      own = λ h apart.
          let differ : h ≢ g = λ same. apart (ap (place_of (length parts)) same ∙ place) in
          let none = (are.each k below).own h apart in (
            waits-as-alone h (part_at bytes parts k) new (ap (λ l. l.waiting) (stay h differ)) ∙ none.0,
            sym (found-alone h new.running) ∙ ap (λ l. live_at l h) (stay h differ)
                ∙ found-alone h (part_at bytes parts k).running ∙ none.1,
          );
    })

-- each network is the same in a host in which only that of one number was changed, as in the part
same-alone-then : (bytes : Bool) (parts : List Live) (k g : ℕ) (new t : Live) → AreParts bytes parts → k < length parts
    → place_of (length parts) g ≡ k → OthersStay g (part_at bytes parts k) new → OthersStay g (joined parts) t
    → alone g t ≡ alone g new → AreParts bytes (slice_set parts k new) → (h : ℕ)
    → alone h t ≡ alone h (joined (slice_set parts k new))
same-alone-then bytes parts k g new t are below place stay whole-stay here later h =
    let many = length-set parts k new in
    all-set (λ j l. place_of (length parts) h ≡ j → alone h t ≡ alone h l) bytes parts k new below
    (λ at. this at (h == g) refl)
    (λ j less differ at.
    let apart : h ≢ g = λ same. differ (sym at ∙ ap (place_of (length parts)) same ∙ place) in
    whole-stay h apart ∙ alone-at-place bytes parts are h ∙ ap (λ j. alone h (part_at bytes parts j)) at)
    (place_of (length parts) h) (place-below bytes parts are h) refl
    ∙ ap (λ n. alone h (part_at bytes (slice_set parts k new) (place_of n h))) (sym many)
    ∙ sym (alone-at-place bytes (slice_set parts k new) later h)
  where
    this : place_of (length parts) h ≡ k → (same : Bool) → (h == g) ≡ same → alone h t ≡ alone h new
    this at true is = subst (λ i. alone i t ≡ alone i new) (sym ((Decides-eqb h g).0 is)) here
    this at false is =
        let apart : h ≢ g = λ same. true≢false (sym ((Decides-eqb h g).1 same) ∙ is) in
        whole-stay h apart ∙ alone-at-place bytes parts are h ∙ ap (λ j. alone h (part_at bytes parts j)) at
        ∙ sym (stay h apart)

-- what the part answers the whole host may answer, and if it is ordered then, it is what its parts are
changed : (bytes : Bool) (parts : List Live) (k n g : ℕ) (asked : Ask) (a : LineReply) (new : Live) → AreParts bytes parts
    → k < length parts → place_of (length parts) g ≡ k → HasRoomToAnswer asked (part_at bytes parts k)
    → HasRoomToAnswer asked (joined parts) → IsOrdered new → IsAskAnswered n g asked (part_at bytes parts k) a new
    → (t : Live) × IsAskAnswered n g asked (joined parts) a t × (IsOrdered t → t ≡ joined (slice_set parts k new))
    × AreParts bytes (slice_set parts k new)
changed bytes parts k n g asked a new are below place room whole-room ordered answers =
    let own = answers_are_local (part_at bytes parts k) new n g asked a (are.each k below).ordered room answers in
    let one : alone g (part_at bytes parts k) ≡ alone g (joined parts) =
    ap (λ j. alone g (part_at bytes parts j)) (sym place) ∙ sym (alone-at-place bytes parts are g) in
    let next =
    answers_are_given_next_to_others (joined parts) (alone g new) n g asked a (joined-ordered bytes parts are) whole-room
    (subst (λ l. IsAskAnswered n g asked l a (alone g new)) one own.0) in
    let later = still-part bytes parts k g new are below place ordered own.1 in (
      next.0,
      next.1,
      λ also.
          same-by-networks next.0 (joined (slice_set parts k new)) also
          (joined-ordered bytes (slice_set parts k new) later)
          (same-alone-then bytes parts k g new next.0 are below place own.1 next.3 next.2 later),
      later,
    )

-- ---- any line
pub parts_answer_for_the_whole : PartsAnswerForTheWhole
parts_answer_for_the_whole bytes parts k n None a new are below of room whole-room (is, same) =
    let by = unchanged bytes parts k new are below same in ((is, by.0), by.1)
parts_answer_for_the_whole bytes parts k n (Some line) a new are below of room whole-room (inl (skipped, is, same)) =
    let by = unchanged bytes parts k new are below same in (inl (skipped, is, by.0), by.1)
parts_answer_for_the_whole bytes parts k n (Some line) a new are below of room whole-room
    (inr (runs, inl (bad, (is, same)))) =
    let by = unchanged bytes parts k new are below same in (inr (runs, inl (bad, (is, by.0))), by.1)
parts_answer_for_the_whole bytes parts k n (Some line) a new are below of room whole-room
    (inr (runs, inr (fields, spelt, (None, asks, (is, same))))) =
    let by = unchanged bytes parts k new are below same in
    (inr (runs, inr (fields, spelt, (None, asks, (is, by.0)))), by.1)
parts_answer_for_the_whole bytes parts k n (Some line) a new are below of room whole-room
    (inr (runs, inr (fields, spelt, (Some asked, asks, answers)))) =
    let ordered : IsOrdered new =
    hosts_stay_ordered (part_at bytes parts k) new n (Some line) a (are.each k below).ordered
    (inr (runs, inr (fields, spelt, (Some asked, asks, answers)))) in
    let by =
    changed bytes parts k n asked.0 asked.1 a new are below (of runs fields asked.0 asked.1 spelt asks)
    (room runs fields asked.0 asked.1 spelt asks) (whole-room runs fields asked.0 asked.1 spelt asks) ordered answers in
    let serves : Serves (joined parts) n (Some line) a by.0 =
    inr (runs, inr (fields, spelt, (Some asked, asks, by.1))) in
    let also = hosts_stay_ordered (joined parts) by.0 n (Some line) a (joined-ordered bytes parts are) serves in
    (subst (λ t. Serves (joined parts) n (Some line) a t) (by.2 also) serves, by.3)
