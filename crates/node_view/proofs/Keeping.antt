-- The rows that are kept: the row at a node's place, gathered or where it stands.
use Rattle.std.proofs.Common.{◌≡◌, ℕ, ◌<◌, List, Option, None, length, get_or, map, sym, ◌∙◌, ap, subst}
use Rattle.std.proofs.lemmas.List.{get_or-map, length-map}
use Rattle.scp_types.specs.declared.kind.Kind.{Kind}
use Rattle.scp_types.specs.Statements.{Sent}
use Rattle.node_table.specs.Places.{place_of_row}
use Rattle.scp_spec.specs.Rows.{row}
use Rattle.node_view.specs.Regions.{row_places}
use Rattle.node_view.specs.Watching.{ArePlaces, row_where}
use Rattle.node_view.proofs.PlaceLaws.{one_where, rows_where_placed}

module _ (kind : Kind) (table : List Sent) (nodes : List ℕ) where
  -- there is a place for each node
  pub as_many : (places : List (Option ℕ)) → places ≡ row_places table kind nodes → length places ≡ length nodes
  as_many places is = ap (λ (os : List (Option ℕ)). length os) is ∙ length-map nodes (λ u. place_of_row table u kind)

  -- what stands at a node's place is its row
  pub row_there : (places : List (Option ℕ)) (i : ℕ) (o : Option ℕ) → ArePlaces table kind nodes places → i < length places → o ≡ get_or places i None → row_where table o ≡ row table (get_or nodes i 0) kind
  row_there places i o are inside at = one_where table (get_or nodes i 0) kind o (sym (at ∙ are i inside))

  -- where places of all are kept
  pub places_of_all : (places : List (Option ℕ)) → places ≡ row_places table kind nodes → ArePlaces table kind nodes places
  places_of_all places is i inside =
      ap (λ (os : List (Option ℕ)). get_or os i None) is ∙ get_or-map (λ (u : ℕ). place_of_row table u kind) nodes i 0 None (subst (λ n. i < n) (as_many places is) inside)

  -- and so is what was read there
  pub row_gathered : {X : Type 0} (f : X → Option Sent) (xs : List X) (d : X) (places : List (Option ℕ)) → map f xs ≡ map (row_where table) places → places ≡ row_places table kind nodes
      → (i : ℕ) → i < length xs → f (get_or xs i d) ≡ row table (get_or nodes i 0) kind
  row_gathered {X} f xs d places read is i inside =
      sym (get_or-map f xs i d None inside)
      ∙ ap (λ (os : List (Option Sent)). get_or os i None) kept
      ∙ get_or-map (λ (u : ℕ). row table u kind) nodes i 0 None (subst (λ n. i < n) many inside)
    where
      kept : map f xs ≡ map (λ (u : ℕ). row table u kind) nodes
      kept = read ∙ ap (map (row_where table)) is ∙ rows_where_placed table kind nodes

      many : length xs ≡ length nodes
      many = sym (length-map xs f) ∙ ap length kept ∙ length-map nodes (λ u. row table u kind)
