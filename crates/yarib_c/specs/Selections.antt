-- The routes that C selects.
use Rattle.std.specs.Prelude.{◌≡◌, ◌≢◌, ℕ, zero, suc, ◌<◌, ◌⊎◌, Bool, true, false, List, [], ◌∷◌, Option, Some, None}
use Rattle.rt_cidr.specs.Cidr.{IsPrefix}
use Rattle.rt_cidr.specs.declared.prefixes.Prefix.{Prefix}
use Rattle.rt_rib.specs.declared.routes.Hop.{Hop}
use Rattle.rt_rib.specs.declared.routes.Hop.TheVariants.{Via, Discard}
use Rattle.rt_rib.specs.declared.routes.Route.{Route}
use Rattle.rt_rib.specs.declared.selection.PrefixFilter.{PrefixFilter}
use Rattle.rt_rib.specs.declared.selection.PrefixFilter.TheVariants.{All, Within, Covering, Exact}
use Rattle.rt_rib.specs.declared.selection.Selection.{Selection}
use Rattle.rt_rib.specs.Book.{IsFeed}
use Rattle.rt_rib.specs.Selection.{selected}
use Rattle.yarib_c.specs.declared.routes.YaribRoute.{YaribRoute}
use Rattle.yarib_c.specs.declared.selections.YaribSelection.{YaribSelection}
use Rattle.yarib_c.specs.Lists.{ShowsRoutes}
use Rattle.yarib_c.specs.declared.held.Held.{Held}
use Rattle.yarib_c.specs.Kinds.{IsForwarding}
use Rattle.yarib_c.specs.Statuses.{IsOneOf, Check}
use Rattle.yarib_c.specs.declared.status.TheConstants.{DONE, BAD_NUMBER, NO_MEMORY, BAD_LENGTH, BAD_BITS, WRONG_KIND}

-- the number of a part, a feed or a choice is invalid
abbrev pub IsOutOfRange : YaribSelection → Type 0
IsOutOfRange c = (3 < c.part) ⊎ (((c.feed ≢ 0) × ¬ IsFeed c.feed) ⊎ (1 < c.only_best))

-- the part needs a prefix, and its length is over 32
abbrev pub IsTooLong : YaribSelection → Type 0
IsTooLong c = (c.part ≢ 0) × (32 < c.len)

-- the part needs a prefix, and the numbers aren't one
abbrev pub HasNoPrefix : YaribSelection → Type 0
HasNoPrefix c = (c.part ≢ 0) × ¬ IsPrefix c.base c.len

-- the status of a selection by a next hop, by the first reason that applies
abbrev pub SelectionStatus : YaribSelection → ℕ → Held → ℕ → Type 0
SelectionStatus c hop held = Check (IsOutOfRange c ⊎ (2 < hop)) BAD_NUMBER (Check (IsTooLong c) BAD_LENGTH (Check (HasNoPrefix c) BAD_BITS
    (Check (IsForwarding held) WRONG_KIND (IsOneOf (DONE ∷ NO_MEMORY ∷ [])))))

-- the selection is by this prefix: its numbers denote it
abbrev pub SelectsPrefix : YaribSelection → Prefix → Type 0
SelectsPrefix c p = (p.base ≡ c.base) × (p.len ≡ c.len)

-- the numbers denote the part of the prefixes
abbrev pub IsPart : YaribSelection → PrefixFilter → Type 0
IsPart c All = c.part ≡ 0
IsPart c (Within p) = (c.part ≡ 1) × SelectsPrefix c p
IsPart c (Covering p) = (c.part ≡ 2) × SelectsPrefix c p
IsPart c (Exact p) = (c.part ≡ 3) × SelectsPrefix c p

-- the feeds whose routes are selected: this one, or any feed for 0
abbrev pub feeds_asked : ℕ → List ℕ
feeds_asked zero = []
feeds_asked (suc n) = suc n ∷ []

-- the numbers denote the next hop whose routes are selected, or any next hop
abbrev pub IsHopAsked : ℕ → ℕ → Option Hop → Type 0
IsHopAsked hop via None = hop ≡ 0
IsHopAsked hop via (Some (Via a)) = (hop ≡ 1) × (a.0 ≡ via)
IsHopAsked hop via (Some Discard) = hop ≡ 2

-- 1 for only the best routes
abbrev pub best_number : Bool → ℕ
best_number false = 0
best_number true = 1

-- the numbers denote the selection, apart from its next hop
pub record IsSelection (c : YaribSelection) (asked : Selection) : Type 0 where
  pub part : IsPart c asked.part
  pub feeds : asked.feeds.now ≡ feeds_asked c.feed
  pub best : best_number asked.only_best ≡ c.only_best

-- the selected routes from index `skip` on are shown; `hop` and `via` denote the next hop
pub record ShowsSelected (c : YaribSelection) (hop via : ℕ) (routes : List Route) (skip : ℕ) (shown : List YaribRoute) (total : ℕ) : Type 0 where
  pub asked : Selection
  pub is : IsSelection c asked
  pub hop_is : IsHopAsked hop via asked.hop
  pub shows : ShowsRoutes (selected asked routes) skip shown total
