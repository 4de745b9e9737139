-- Members are read one after another.
use Rattle.std.proofs.Common.{◌≡◌, ◌≢◌, ◌∙◌, ℕ, zero, suc, ◌+◌, ◌-◌, ◌<◌, ◌≤◌, false, List, [], ◌∷◌, ◌++◌, length, take, drop, get_or, refl, sym, ap, arith, append_assoc, length-append, ne_eqb}
use Rattle.std.specs.Prelude.{◌==◌, Option, Some, None, option_map, option_and_then}
use Rattle.std.proofs.lemmas.List.{take_all}
use Rattle.scp_types.specs.declared.nested.Member.{Member}
use Rattle.line_script.specs.Script.{Bytes}
use Rattle.scp_types.specs.Trees.{Slices}
use Rattle.scp_types.specs.Shape.{members_of}
use Rattle.line_script.specs.Fronts.{SetReader, inner_front, member_front, members_front, members_in, set_front, set_of, threshold_front, with_more}

-- members and what follows them
abbrev Read : Type 0
Read = Option (List Member × Bytes)

-- members with others before them
abbrev pub behind_members : List Member → Read → Read
behind_members items r = option_map (λ r. (items ++ r.0, r.1)) r

room_left : (n : ℕ) → n < 64 → 64 - n ≡ suc (64 - (n + 1))
room_left n h = omega arith

-- one member, and those behind it
opens : (inner : SetReader) (n : ℕ) (text : Bytes) → n < 64
    → members_front inner (64 - n) text ≡ option_and_then (λ r. with_more r.0 r.1 (members_front inner (64 - (n + 1)))) (member_front inner text)
opens inner n text h = ap (λ room. members_front inner room text) (room_left n h)

one_behind : (inner : SetReader) (n : ℕ) (text after : Bytes) (m : Member) → n < 64 → Some (m, after) ≡ member_front inner text
    → members_front inner (64 - n) text ≡ with_more m after (members_front inner (64 - (n + 1)))
one_behind inner n text after m h e = opens inner n text h ∙ ap (option_and_then (λ r. with_more r.0 r.1 (members_front inner (64 - (n + 1))))) (sym e)

none_behind : (inner : SetReader) (n : ℕ) (text : Bytes) → n < 64 → None ≡ member_front inner text → members_front inner (64 - n) text ≡ None
none_behind inner n text h e = opens inner n text h ∙ ap (option_and_then (λ r. with_more r.0 r.1 (members_front inner (64 - (n + 1))))) (sym e)

put_one : (r : Read) (items new : List Member) (m : Member) → new ≡ items ++ m ∷ [] → behind_members new r ≡ behind_members items (option_map (λ r. (m ∷ r.0, r.1)) r)
put_one None items new m e = refl
put_one (Some r) items new m e = rw e (ap (λ (ms : List Member). Some (ms, r.1)) (append_assoc items (m ∷ []) r.0))

one_more : (items new : List Member) (m : Member) → new ≡ items ++ m ∷ [] → length new ≡ length items + 1
one_more items new m e = rw e (length-append items (m ∷ []))

whole_rest : (b : ℕ) (more : Bytes) → take (length (b ∷ more) - 1) (drop 1 (b ∷ more)) ≡ more
whole_rest b more = take_all (length (b ∷ more) - 1) more (omega arith)

pub read_all : (inner : SetReader) (text : Bytes) (items : List Member) → items ≡ [] → behind_members items (members_front inner (64 - length items) text) ≡ members_in inner text
unfolding members_in
read_all inner text items e = rw e (go (members_front inner 64 text))
  where
    go : (r : Read) → behind_members [] r ≡ r
    go None = refl
    go (Some r) = refl

pub read_more : (inner : SetReader) (items new : List Member) (text after : Bytes) (m : Member) (whole : Read) → length items < 64 → Some (m, after) ≡ member_front inner text
    → new ≡ items ++ m ∷ [] → 0 < length after → get_or after 0 0 ≡ 44 → behind_members items (members_front inner (64 - length items) text) ≡ whole
    → behind_members new (members_front inner (64 - length new) (take (length after - 1) (drop 1 after))) ≡ whole
read_more inner items new text [] m whole few read put some mark so_far = absurd (omega arith)
read_more inner items new text (b ∷ more) m whole few read put some mark so_far =
    let comma : with_more m (b ∷ more) (members_front inner (64 - (length items + 1))) ≡ option_map (λ r. (m ∷ r.0, r.1)) (members_front inner (64 - (length items + 1)) more) =
    rw mark refl in
    rw (whole_rest b more, one_more items new m put)
    (put_one (members_front inner (64 - (length items + 1)) more) items new m put ∙ ap (behind_members items) (sym comma)
    ∙ ap (behind_members items) (sym (one_behind inner (length items) text (b ∷ more) m few read)) ∙ so_far)

pub read_last : (inner : SetReader) (items new : List Member) (text after : Bytes) (m : Member) (whole : Read) → length items < 64 → Some (m, after) ≡ member_front inner text
    → new ≡ items ++ m ∷ [] → 0 < length after → get_or after 0 0 ≡ 93 → behind_members items (members_front inner (64 - length items) text) ≡ whole
    → Some (new, take (length after - 1) (drop 1 after)) ≡ whole
read_last inner items new text [] m whole few read put some mark so_far = absurd (omega arith)
read_last inner items new text (b ∷ more) m whole few read put some mark so_far =
    let bracket : with_more m (b ∷ more) (members_front inner (64 - (length items + 1))) ≡ Some (m ∷ [], more) = rw mark refl in
    rw (whole_rest b more, put) (ap (behind_members items) (sym bracket) ∙ ap (behind_members items) (sym (one_behind inner (length items) text (b ∷ more) m few read)) ∙ so_far)

pub read_none : (inner : SetReader) (items : List Member) (text : Bytes) (whole : Read) → length items < 64 → None ≡ member_front inner text
    → behind_members items (members_front inner (64 - length items) text) ≡ whole → None ≡ whole
read_none inner items text whole few read so_far = ap (behind_members items) (sym (none_behind inner (length items) text few read)) ∙ so_far

pub read_wrong : (inner : SetReader) (items : List Member) (text after : Bytes) (m : Member) (whole : Read) → length items < 64 → Some (m, after) ≡ member_front inner text
    → (0 < length after → get_or after 0 0 ≢ 44) → (0 < length after → get_or after 0 0 ≢ 93) → behind_members items (members_front inner (64 - length items) text) ≡ whole → None ≡ whole
read_wrong inner items text [] m whole few read no_comma no_bracket so_far =
    ap (behind_members items) (sym (one_behind inner (length items) text [] m few read)) ∙ so_far
read_wrong inner items text (b ∷ more) m whole few read no_comma no_bracket so_far =
    let c : (b == 44) ≡ false = ne_eqb b 44 (no_comma (omega arith)) in
    let d : (b == 93) ≡ false = ne_eqb b 93 (no_bracket (omega arith)) in
    let wrong : with_more m (b ∷ more) (members_front inner (64 - (length items + 1))) ≡ None = rw (c, d) refl in
    ap (behind_members items) (sym wrong) ∙ ap (behind_members items) (sym (one_behind inner (length items) text (b ∷ more) m few read)) ∙ so_far

pub full : (inner : SetReader) (items : List Member) (text : Bytes) (whole : Read) → 64 ≤ length items
    → behind_members items (members_front inner (64 - length items) text) ≡ whole → None ≡ whole
full inner items text whole many so_far =
    let no_room : 64 - length items ≡ 0 = omega arith in
    ap (λ room. behind_members items (members_front inner room text)) (sym no_room) ∙ so_far

-- ---- a set

pub inner_levels : (levels : ℕ) (text : Bytes) → levels ≢ 0 → set_front (inner_front (levels - 1)) text ≡ inner_front levels text
inner_levels zero text some = absurd (some refl)
inner_levels (suc levels) text some =
    let same : suc levels - 1 ≡ levels = omega arith in
    ap (λ n. set_front (inner_front n) text) same

pub set_read : (inner : SetReader) (text rest behind : Bytes) (k : ℕ) (ms : List Member) (set : Slices) → Some (k, rest) ≡ threshold_front text → Some (ms, behind) ≡ members_in inner rest
    → set.threshold ≡ k → set.members ≡ members_of ms → Some (set, behind) ≡ set_front inner text
set_read inner text rest behind k ms set front members e f =
    let same : set ≡ set_of k ms = λ i. record { threshold = e i; members = f i } in
    rw (same, ← front, ← members) refl
