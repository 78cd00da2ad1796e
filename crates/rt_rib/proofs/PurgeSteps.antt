-- A purge in steps: what it leaves if some of its routes were withdrawn before.
use Rattle.std.proofs.Common.{◌≡◌, ℕ, ◌==◌, ◌&&◌, Bool, true, false, not, ◌⊎◌, List, [], ◌∷◌, if◌then◌else◌, refl, sym, ap, ◌∙◌, inl, inr}
use Rattle.std.proofs.lemmas.Bool.{cond-true, cond-false}
use Rattle.std.specs.List.{filter}
use Rattle.rt_cidr.specs.declared.prefixes.Prefix.{Prefix}
use Rattle.rt_cidr.specs.Prefix.{same_prefix}
use Rattle.rt_rib.specs.declared.routes.Route.{Route}
use Rattle.rt_rib.specs.declared.commands.Cmd.TheVariants.{Withdraw, Purge}
use Rattle.rt_rib.specs.declared.commands.Reply.{Reply}
use Rattle.rt_rib.specs.declared.commands.Reply.TheVariants.{Purged}
use Rattle.rt_rib.specs.Table.{has, count_of, is_of, take_out, purge}
use Rattle.rt_rib.specs.Sequential.{reply_of, table_after}
use Rattle.rt_rib.specs.Book.{TableState, Serves}

either : (b : Bool) → (b ≡ true) ⊎ (b ≡ false)
either true = inl refl
either false = inr refl

first_part : (a b : Bool) → (a && b) ≡ true → a ≡ true
first_part true b h = refl
first_part false b h = h

-- a purge leaves the same if one of the feed's routes is removed before
taken_rest : (feed : ℕ) (prefix : Prefix) (t : List Route) → purge feed (take_out feed prefix t) ≡ purge feed t
taken_rest feed prefix [] = refl
taken_rest feed prefix (r ∷ t) =
    let keeps : Route → Bool = λ s. not (is_of feed prefix s) in
    let stays : Route → Bool = λ s. not (s.feed == feed) in
    let kept : List Route = filter keeps t in
    let rest : filter stays kept ≡ filter stays t = taken_rest feed prefix t in
    elim (either (is_of feed prefix r)) [
      | inl taken ↦
          let own : (r.feed == feed) ≡ true = first_part (r.feed == feed) (same_prefix r.prefix prefix) taken in
          ap (filter stays) (cond-false (keeps r) (r ∷ kept) kept (ap not taken)) ∙ rest
          ∙ sym (cond-false (stays r) (r ∷ filter stays t) (filter stays t) (ap not own))
      | inr left ↦
          let through : filter stays (r ∷ kept) ≡ filter stays (r ∷ t) = elim (either (r.feed == feed)) [
            | inl own ↦
                cond-false (stays r) (r ∷ filter stays kept) (filter stays kept) (ap not own) ∙ rest
                ∙ sym (cond-false (stays r) (r ∷ filter stays t) (filter stays t) (ap not own))
            | inr other ↦
                cond-true (stays r) (r ∷ filter stays kept) (filter stays kept) (ap not other) ∙ ap (λ (u : List Route). r ∷ u) rest
                ∙ sym (cond-true (stays r) (r ∷ filter stays t) (filter stays t) (ap not other))
          ] in
          ap (filter stays) (cond-true (keeps r) (r ∷ kept) kept (ap not left)) ∙ through
    ]

module _ (feed : ℕ) (t : List Route) where
  -- whichever of two tables it is
  of_two : (b : Bool) (u v : List Route) → purge feed u ≡ purge feed t → purge feed v ≡ purge feed t → purge feed (if b then u else v) ≡ purge feed t
  of_two true u v one other = one
  of_two false u v one other = other

-- a purge leaves the same after a withdrawal
pub withdrawn_rest : (old new : TableState) (feed : ℕ) (prefix : Prefix) (reply : Reply) → Serves old new feed (Withdraw prefix) reply
    → purge feed new.routes ≡ purge feed old.routes
unfolding table_after
withdrawn_rest old new feed prefix reply serves =
    ap (λ (s : TableState). purge feed s.routes) serves.changed
    ∙ of_two feed old.routes (has feed prefix old.routes) (take_out feed prefix old.routes) old.routes (taken_rest feed prefix old.routes) refl

-- what a purge leaves
pub purged_routes : (old new : TableState) (feed : ℕ) (reply : Reply) → Serves old new feed Purge reply → new.routes ≡ purge feed old.routes
unfolding table_after
purged_routes old new feed reply serves = ap (λ (s : TableState). s.routes) serves.changed

pub purged_limit : (old new : TableState) (feed : ℕ) (reply : Reply) → Serves old new feed Purge reply → new.limit ≡ old.limit
purged_limit old new feed reply serves = ap (λ (s : TableState). s.limit) serves.changed

-- a purge in steps
pub serves_purge : (limit same feed count : ℕ) (t u : List Route) → count ≡ count_of feed t → same ≡ limit → u ≡ purge feed t
    → Serves (record { limit = limit; routes = t }) (record { limit = same; routes = u }) feed Purge (Purged count)
unfolding reply_of table_after
serves_purge limit same feed count t u are is leaves = record { replied = ap Purged are; changed = rw (is, leaves) refl }
