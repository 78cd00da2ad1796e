-- The answers of look-ups, written piece by piece: those of the addresses so far, and then those of the rest. Also all
-- covering routes of each address, collected one by one.
use Rattle.std.proofs.Common.{◌≡◌, ℕ, ◌+◌, ◌<◌, List, [], ◌∷◌, ◌++◌, Option, Result, length, map, take, get_or, append_assoc, refl, ap, subst, ◌∙◌}
use Rattle.std.specs.Prelude.{IsErr}
use Rattle.std.specs.List.{flat_map}
use Rattle.std.proofs.lemmas.List.{get_or-map, get_or_default, take_more, map_push}
use Rattle.std.proofs.lemmas.Grind.{flat_map-append}
use Rattle.std.specs.Io.KnownBytes.{Appends}
use Rattle.rt_cidr.specs.declared.address.Addr.{Addr}
use Rattle.rt_cidr.specs.Output.{AppendsBeginning, WritesText}
use Rattle.rt_cidr.proofs.Promised.{begins_after, begins_longer}
use Rattle.rt_rib.specs.declared.routes.Route.{Route}
use Rattle.rt_rib.specs.LookUp.{look_up, look_up_all}
use Rattle.rt_print.specs.Styles.{StyleContents, label_of, found_as}
use Rattle.std.specs.declared.vec.Vec.{Vec}
use Rattle.std.specs.declared.alloc.Global.{Global}
use Rattle.rt_run.specs.inside.Outputs.{found_text, matches_found, matches_in}
use Rattle.rt_print.proofs.Promised.{stops_all}

module _ (style : StyleContents) (table : List Route) (all rest piece behind : List Addr) (text : List ℕ)
    (whole : text ++ found_text style rest table ≡ found_text style all table) (cut : rest ≡ piece ++ behind) where
  -- the answers of a piece follow the text so far
  pub answers_grow : (text ++ found_text style piece table) ++ found_text style behind table ≡ found_text style all table
  answers_grow =
      rw (append_assoc, ← (flat_map-append (λ addr. found_as style.syntax (label_of style.labels) addr (look_up addr table)) piece behind), ← cut) whole

  -- a fault within them leaves a beginning of all answers
  pub answers_begin : (a b c : Option (List ℕ)) → Appends a b text
      → AppendsBeginning b c (found_text style piece table) → AppendsBeginning a c (found_text style all table)
  answers_begin a b c written begun =
      rw (← answers_grow) (begins_longer a c (text ++ found_text style piece table)
      (found_text style behind table) (begins_after a b c text (found_text style piece table) written begun))

module _ (style : StyleContents) (table : List Route) (piece : List Addr) (answers : List (Option Route)) (k : ℕ) (none : Addr) (found : Option Route) (here : k < length piece)
    (is : found ≡ get_or answers k found) (answered : answers ≡ map (λ addr. look_up addr table) piece) where
  -- at each position is the result of looking up its address
  found_at : found ≡ look_up (get_or piece k none) table
  found_at = is ∙ (ap (λ (all : List (Option Route)). get_or all k found) answered ∙ get_or-map (λ addr. look_up addr table) piece k none found here)

  -- a fault within its text leaves a beginning of the piece's answers
  pub answers_stop : {T E : Type 0} (a b c : Option (List ℕ)) (result : Result T E) → Appends a b (found_text style (take k piece) table) → IsErr result
      → AppendsBeginning b c (found_as style.syntax (label_of style.labels) (get_or piece k none) found) → WritesText a c (found_text style piece table) result
  answers_stop a b c result written failed begun =
      let one : Addr → List ℕ = λ addr. found_as style.syntax (label_of style.labels) addr (look_up addr table) in
      let addr = get_or piece k none in
      stops_all (λ n. one) (λ n. flat_map one) (λ n. refl) (λ n x xs. refl) piece k addr here (get_or_default piece k none addr here) a b c written result failed
      (subst (λ (f : Option Route). AppendsBeginning b c (found_as style.syntax (label_of style.labels) addr f)) found_at begun)

-- all covering routes of one more address
pub matches_more :
    (table : List Route) (addresses : List Addr) (k : ℕ) (none : Addr) (all all' : List (Addr × Vec Route Global)) (one : Addr × Vec Route Global) → k < length addresses
    → all' ≡ all ++ one ∷ [] → one.0 ≡ get_or addresses k none → one.1.items ≡ look_up_all (get_or addresses k none) table
    → matches_found all ≡ matches_in table (take k addresses) → matches_found all' ≡ matches_in table (take (k + 1) addresses)
matches_more table addresses k none all all' one here pushed of_it found so_far =
    let pair : (Addr × Vec Route Global) → Addr × List Route = λ m. (m.0, m.1.items) in
    let answer : Addr → Addr × List Route = λ addr. (addr, look_up_all addr table) in
    let same : pair one ≡ answer (get_or addresses k none) = cc (of_it, found) in
    rw (pushed, take_more addresses k none here, map_push pair all one, map_push answer (take k addresses) (get_or addresses k none), so_far, same) refl
