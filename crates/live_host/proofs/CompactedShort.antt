-- The lines of the shorter journal.
use Rattle.std.specs.Prelude.{◌≡◌, ◌≢◌, ◌+◌, ◌≤◌, ◌&&◌, ◌==◌, ◌++◌, ◌∷◌, [], not, map, cond, nat_lt, length, ℕ, Bool, true, false, List, Option, Some, None, codes, if◌then◌else◌}
use Rattle.std.specs.List.{flat_map}
use Rattle.std.specs.Fmt.{decimal}
use Rattle.std.specs.Ordering.{is_eq, nat_cmp}
use Rattle.std.specs.Map.{values_of}
use Rattle.std.proofs.Common.{◌∙◌, refl, sym, ap, arith, true≢false}
use Rattle.std.proofs.lemmas.Bool.Decides.{Decides-eqb}
use Rattle.line_script.specs.Script.{Bytes, lines_with_feeds}
use Rattle.live_feed.specs.Lasting.{Declaration, Lines, NetworkLines, compacted, declaration_text, entry_at, lost_at, lowered, naming_text}
use Rattle.live_host.specs.Apart.{AreFrom}
use Rattle.live_host.specs.Compacted.{AppliedLine, applied_tag, declarations_of, declared_tag, declared_text, naming_line, naming_tags, of_network, pair_of, short_tags}
use Rattle.live_host.specs.Merging.{all_lines, lines_for}
use Rattle.live_host.proofs.Alone.{at-itself}
use Rattle.live_host.proofs.CompactedLists.{not-at}
use Rattle.live_host.proofs.CompactedNoted.{differs}

-- ---- one text
nested : {X : Type 0} (xs ys zs : List X) → (xs ++ ys) ++ zs ≡ xs ++ (ys ++ zs)
nested [] ys zs = refl
nested (x ∷ xs) ys zs = ap (λ l. x ∷ l) (nested xs ys zs)

feeds-both : (lines more : List Bytes) → lines_with_feeds (lines ++ more) ≡ lines_with_feeds lines ++ lines_with_feeds more
feeds-both [] more = refl
feeds-both (line ∷ lines) more =
    ap (λ l. line ++ 10 ∷ l) (feeds-both lines more)
    ∙ sym (nested line (10 ∷ lines_with_feeds lines) (lines_with_feeds more))

map-both : {X Y : Type 0} (f : X → Y) (xs ys : List X) → map f (xs ++ ys) ≡ map f xs ++ map f ys
map-both f [] ys = refl
map-both f (x ∷ xs) ys = ap (λ l. f x ∷ l) (map-both f xs ys)

declared-feeds : (networks : List (ℕ × NetworkLines)) (ds : List (ℕ × Declaration))
    → flat_map (declaration_text networks) (values_of ds) ≡ lines_with_feeds (all_lines (map (declared_tag networks) ds))
declared-feeds networks [] = refl
declared-feeds networks (e ∷ ds) =
    nested (lowered (lost_at (entry_at networks e.1.network)) e.1.text) (10 ∷ [])
    (flat_map (declaration_text networks) (values_of ds))
    ∙ ap (λ l. lowered (lost_at (entry_at networks e.1.network)) e.1.text ++ 10 ∷ l) (declared-feeds networks ds)

naming-feed : (g : ℕ) (more : Bytes)
    → (codes "close " ++ (decimal g ++ 32 ∷ 48 ∷ 10 ∷ [])) ++ more ≡ naming_line g ++ 10 ∷ more
naming-feed g more =
    nested (codes "close ") (decimal g ++ 32 ∷ 48 ∷ 10 ∷ []) more
    ∙ ap (λ l. codes "close " ++ l) (nested (decimal g) (32 ∷ 48 ∷ 10 ∷ []) more)
    ∙ sym (nested (codes "close ") (decimal g ++ 32 ∷ 48 ∷ []) (10 ∷ more)
    ∙ ap (λ l. codes "close " ++ l) (nested (decimal g) (32 ∷ 48 ∷ []) (10 ∷ more)))

naming-feeds : (networks : List (ℕ × NetworkLines))
    → flat_map naming_text networks ≡ lines_with_feeds (all_lines (naming_tags networks))
naming-feeds [] = refl
naming-feeds (e ∷ networks) = by (e.1.is_named && not (nat_lt 0 (length e.1.slots))) (naming-feeds networks)
  where
    by : (b : Bool) → flat_map naming_text networks ≡ lines_with_feeds (all_lines (naming_tags networks))
        → (if b then codes "close " ++ (decimal e.0 ++ 32 ∷ 48 ∷ 10 ∷ []) else []) ++ flat_map naming_text networks
        ≡ lines_with_feeds (all_lines (cond b ((e.0, naming_line e.0) ∷ naming_tags networks) (naming_tags networks)))
    by true others = naming-feed e.0 (flat_map naming_text networks) ∙ ap (λ l. naming_line e.0 ++ 10 ∷ l) others
    by false others = others

applied-lines : (es : List AppliedLine) → values_of (map pair_of es) ≡ all_lines (map applied_tag es)
applied-lines [] = refl
applied-lines (e ∷ es) = ap (λ l. e.text ∷ l) (applied-lines es)

-- it is these lines
pub shorter-lines : (lines : Lines) (es : List AppliedLine) → lines.lasting.events ≡ map pair_of es
    → compacted lines ≡ lines_with_feeds (all_lines (short_tags lines es))
shorter-lines lines es are =
    ap (λ l. l ++ (flat_map naming_text lines.networks ++ lines_with_feeds (values_of lines.lasting.events)))
    (declared-feeds lines.networks lines.lasting.declarations)
    ∙ ap (λ l. declared ++ (l ++ lines_with_feeds (values_of lines.lasting.events))) (naming-feeds lines.networks)
    ∙ ap (λ l. declared ++ (naming ++ lines_with_feeds l)) (ap values_of are ∙ applied-lines es)
    ∙ ap (λ l. declared ++ l) (sym (feeds-both (all_lines (naming_tags lines.networks)) (all_lines (map applied_tag es))))
    ∙ sym (feeds-both (all_lines (map (declared_tag lines.networks) lines.lasting.declarations))
    (all_lines (naming_tags lines.networks) ++ all_lines (map applied_tag es)))
    ∙ ap lines_with_feeds
    (ap (λ l. all_lines (map (declared_tag lines.networks) lines.lasting.declarations) ++ l)
    (sym (map-both (λ (e : ℕ × Bytes). e.1) (naming_tags lines.networks) (map applied_tag es)))
    ∙ sym (map-both (λ (e : ℕ × Bytes). e.1) (map (declared_tag lines.networks) lines.lasting.declarations)
    (naming_tags lines.networks ++ map applied_tag es)))
  where
    declared : Bytes
    declared = lines_with_feeds (all_lines (map (declared_tag lines.networks) lines.lasting.declarations))

    naming : Bytes
    naming = lines_with_feeds (all_lines (naming_tags lines.networks))

-- ---- the lines of one network
for-both : (g : ℕ) (es fs : List (ℕ × Bytes)) → lines_for g (es ++ fs) ≡ lines_for g es ++ lines_for g fs
for-both g [] fs = refl
for-both g (e ∷ es) fs = by (e.0 == g) (for-both g es fs)
  where
    by : (b : Bool) → lines_for g (es ++ fs) ≡ lines_for g es ++ lines_for g fs
        → (if b then e.1 ∷ lines_for g (es ++ fs) else lines_for g (es ++ fs))
        ≡ (if b then e.1 ∷ lines_for g es else lines_for g es) ++ lines_for g fs
    by true others = ap (λ l. e.1 ∷ l) others
    by false others = others

declared-for : (g : ℕ) (networks : List (ℕ × NetworkLines)) (ds : List (ℕ × Declaration))
    → lines_for g (map (declared_tag networks) ds)
    ≡ map (lowered (lost_at (entry_at networks g))) (map declared_text (declarations_of g ds))
declared-for g networks [] = refl
declared-for g networks (e ∷ ds) = by (e.1.network == g) refl (declared-for g networks ds)
  where
    by : (b : Bool) → (e.1.network == g) ≡ b
        → lines_for g (map (declared_tag networks) ds)
        ≡ map (lowered (lost_at (entry_at networks g))) (map declared_text (declarations_of g ds))
        → (if b then lowered (lost_at (entry_at networks e.1.network)) e.1.text ∷ lines_for g (map (declared_tag networks) ds)
        else lines_for g (map (declared_tag networks) ds))
        ≡ map (lowered (lost_at (entry_at networks g)))
        (map declared_text (cond b (e ∷ declarations_of g ds) (declarations_of g ds)))
    by true is others =
        ap (λ h. lowered (lost_at (entry_at networks h)) e.1.text ∷ lines_for g (map (declared_tag networks) ds))
        ((Decides-eqb e.1.network g).0 is)
        ∙ ap (λ l. lowered (lost_at (entry_at networks g)) e.1.text ∷ l) others
    by false is others = others

abbrev pub applied_text : AppliedLine → Bytes
applied_text e = e.text

applied-for : (g : ℕ) (es : List AppliedLine) → lines_for g (map applied_tag es) ≡ map applied_text (of_network g es)
applied-for g [] = refl
applied-for g (e ∷ es) = by (e.network == g) (applied-for g es)
  where
    by : (b : Bool) → lines_for g (map applied_tag es) ≡ map applied_text (of_network g es)
        → (if b then e.text ∷ lines_for g (map applied_tag es) else lines_for g (map applied_tag es))
        ≡ map applied_text (cond b (e ∷ of_network g es) (of_network g es))
    by true others = ap (λ l. e.text ∷ l) others
    by false others = others

abbrev pub is_bare_named : NetworkLines → Bool
is_bare_named net = net.is_named && not (nat_lt 0 (length net.slots))

abbrev pub naming_of : ℕ → Option NetworkLines → List Bytes
naming_of g None = []
naming_of g (Some net) = cond (is_bare_named net) (naming_line g ∷ []) []

none-named : (g k : ℕ) (networks : List (ℕ × NetworkLines)) → AreFrom k networks → g + 1 ≤ k
    → lines_for g (naming_tags networks) ≡ []
none-named g k [] ascend below = refl
none-named g k (e ∷ networks) ascend below =
    let more = ascend.0 in
    by (is_bare_named e.1) (differs e.0 g (omega (arith, more, below)))
    (none-named g (e.0 + 1) networks ascend.1 (omega (arith, more, below)))
  where
    one : (c : Bool) → c ≡ false → lines_for g (naming_tags networks) ≡ []
        → (if c then naming_line e.0 ∷ lines_for g (naming_tags networks) else lines_for g (naming_tags networks)) ≡ []
    one true is others = absurd (true≢false is)
    one false is others = others

    by : (b : Bool) → (e.0 == g) ≡ false → lines_for g (naming_tags networks) ≡ []
        → lines_for g (cond b ((e.0, naming_line e.0) ∷ naming_tags networks) (naming_tags networks)) ≡ []
    by true is others = one (e.0 == g) is others
    by false is others = others

naming-for : (g k : ℕ) (networks : List (ℕ × NetworkLines)) → AreFrom k networks
    → lines_for g (naming_tags networks) ≡ naming_of g (entry_at networks g)
naming-for g k [] ascend = refl
naming-for g k (e ∷ networks) ascend = by (e.0 == g) refl (naming-for g (e.0 + 1) networks ascend.1)
  where
    here : (b : Bool) → (e.0 == g) ≡ true → lines_for g (naming_tags networks) ≡ []
        → lines_for g (cond b ((e.0, naming_line e.0) ∷ naming_tags networks) (naming_tags networks))
        ≡ cond b (naming_line g ∷ []) []
    here true is none =
        ap (λ c. if c then naming_line e.0 ∷ lines_for g (naming_tags networks) else lines_for g (naming_tags networks)) is
        ∙ ap (λ l. naming_line e.0 ∷ l) none ∙ ap (λ h. naming_line h ∷ []) ((Decides-eqb e.0 g).0 is)
    here false is none = none

    there : (b : Bool) → (e.0 == g) ≡ false
        → lines_for g (cond b ((e.0, naming_line e.0) ∷ naming_tags networks) (naming_tags networks))
        ≡ lines_for g (naming_tags networks)
    there true is =
        ap (λ c. if c then naming_line e.0 ∷ lines_for g (naming_tags networks) else lines_for g (naming_tags networks)) is
    there false is = refl

    by : (b : Bool) → (e.0 == g) ≡ b → lines_for g (naming_tags networks) ≡ naming_of g (entry_at networks g)
        → lines_for g (naming_tags (e ∷ networks)) ≡ naming_of g (entry_at (e ∷ networks) g)
    by true is others =
        let same : e.0 ≡ g = (Decides-eqb e.0 g).0 is in
        here (is_bare_named e.1) is (none-named g (e.0 + 1) networks ascend.1 (omega (arith, same)))
        ∙ sym (ap (λ o. naming_of g (cond (is_eq o) (Some e.1) (entry_at networks g)))
        (ap (nat_cmp g) same ∙ at-itself g))
    by false is others =
        let apart : g ≢ e.0 = λ same. true≢false (sym ((Decides-eqb e.0 g).1 (sym same)) ∙ is) in
        there (is_bare_named e.1) is ∙ others
        ∙ sym (ap (λ b. naming_of g (cond b (Some e.1) (entry_at networks g))) (not-at g e.0 apart))

pub short-for : (g : ℕ) (lines : Lines) (es : List AppliedLine) → AreFrom 0 lines.networks
    → lines_for g (short_tags lines es)
    ≡ map (lowered (lost_at (entry_at lines.networks g))) (map declared_text (declarations_of g lines.lasting.declarations))
    ++ (naming_of g (entry_at lines.networks g) ++ map applied_text (of_network g es))
short-for g lines es ascend =
    for-both g (map (declared_tag lines.networks) lines.lasting.declarations)
    (naming_tags lines.networks ++ map applied_tag es)
    ∙ ap (λ l. l ++ lines_for g (naming_tags lines.networks ++ map applied_tag es))
    (declared-for g lines.networks lines.lasting.declarations)
    ∙ ap (λ l. map (lowered (lost_at (entry_at lines.networks g)))
    (map declared_text (declarations_of g lines.lasting.declarations)) ++ l)
    (for-both g (naming_tags lines.networks) (map applied_tag es)
    ∙ ap (λ l. l ++ lines_for g (map applied_tag es)) (naming-for g 0 lines.networks ascend)
    ∙ ap (λ l. naming_of g (entry_at lines.networks g) ++ l) (applied-for g es))
