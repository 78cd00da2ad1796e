-- How numbers of next hops lead where the numbers of answers led.
use Rattle.std.proofs.Common.{◌≡◌, ℕ, ◌+◌, ◌*◌, ◌/◌, ◌%◌, ◌^◌, ◌-◌, ◌<◌, ◌≤◌, inl, inr, List, [], ◌∷◌, ◌++◌, length, take, map, get_or, Option, Some, None, subst, sym, ap, ◌∙◌, arith}
use Rattle.std.proofs.lemmas.Grind.{common_steps}
use Rattle.std.proofs.lemmas.Bool.{cases_lt}
use Rattle.std.proofs.lemmas.Bool.Decides.{nat_tests}
use Rattle.std.proofs.lemmas.List.{get_or-map, get_or_append_left, get_or_push, length-map, length_push}
use Rattle.rt_rib.specs.declared.routes.Hop.{Hop}
use Rattle.rt_rib.specs.declared.routes.Hop.TheVariants.{Via, Discard}
use Rattle.rt_rib.specs.declared.routes.Route.{Route}
use Rattle.rt_rib.specs.LookUp.{look_up}
use Rattle.rt_fib.specs.Views.{IsHopNumber, IsAnswerNumber, IsNumber, ViewShows}
use Rattle.rt_fib.specs.declared.slabs.Group.{Group}
use Rattle.rt_fib.specs.declared.slabs.Slabs.{Slabs}
use Rattle.rt_fib.specs.inside.Entries.{AreMarked}
use Rattle.rt_fib.specs.inside.Shown.{shown_entry, Extends, AreHopsOf, AreShownBlocks}
use Rattle.rt_fib.specs.inside.Changes.{ArePut}
use Rattle.rt_fib.proofs.Leading.{entry_leads}

-- a router's number in a list that goes on
hop_extends : (old new : List ℕ) (number : ℕ) (hop : Hop) → Extends old new → IsHopNumber old number hop → IsHopNumber new number hop
hop_extends old new number (Via a) more is = (is.0, omega (arith, is.1, more.longer), more.same number is.1 ∙ is.2)
hop_extends old new number Discard more is = is

answer_extends : (old new : List ℕ) (number : ℕ) (answer : Option Route) → Extends old new → IsAnswerNumber old number answer → IsAnswerNumber new number answer
answer_extends old new number None more is = is
answer_extends old new number (Some r) more is = hop_extends old new number r.hop more is

number_extends : (old new : List ℕ) (number : ℕ) (answer : Option Route) → Extends old new → IsNumber old number answer → IsNumber new number answer
number_extends old new number answer more is = record { short = is.short; number = answer_extends old new number answer more is.number }

-- one more answer
pub hops_push : (old new numbers : List ℕ) (answers : List (Option Route)) (n number : ℕ) (answer : Option Route) → Extends old new
    → AreHopsOf old numbers answers n → IsNumber new number answer → ((d : Option Route) → get_or answers n d ≡ answer)
    → AreHopsOf new (numbers ++ number ∷ []) answers (n + 1)
hops_push old new numbers answers n number answer more are is there = record {
  size = omega (arith, are.size, length_push numbers number);
  each = λ m d below. elim (cases_lt m n) [
    | inl before ↦
        let same : get_or (numbers ++ number ∷ []) m 0 ≡ get_or numbers m 0 =
        get_or_append_left numbers (number ∷ []) 0 m (omega (arith, before, are.size)) in
        subst (λ (x : ℕ). IsNumber new x (get_or answers m d)) (sym same)
        (number_extends old new (get_or numbers m 0) (get_or answers m d) more (are.each m d before))
    | inr from ↦
        let last : m ≡ n = omega (arith, below, from) in
        let same : get_or (numbers ++ number ∷ []) m 0 ≡ number = get_or_push numbers number 0 m (omega (arith, are.size, last)) in
        let found : get_or answers m d ≡ answer = ap (λ (j : ℕ). get_or answers j d) last ∙ there d in
        subst (λ (x : ℕ). IsNumber new x (get_or answers m d)) (sym same)
        (subst (λ (a : Option Route). IsNumber new number a) (sym found) is)
  ];
}

-- the list, once it is put into the caller's
pub put_extends : (old new list : List ℕ) → length list ≤ length old → ArePut old new list 0 (length list) → Extends list (take (length list) new)
put_extends old new list fits put = grind (arith, common_steps)

-- what is written leads each address to the number of its answer
pub view_shows : {A : Type 0} → (entries shown old more numbers list routers : List ℕ) (slabs : Slabs A) (epoch marked : ℕ) (table : List Route)
    → AreMarked entries slabs epoch marked table → AreHopsOf list numbers slabs.routes.places.values (length slabs.routes.places.values) → Extends list routers
    → shown ≡ map (shown_entry numbers) entries
    → AreShownBlocks numbers slabs.groups.places.values old more (length slabs.groups.places.values * 256)
    → length slabs.groups.places.values * 256 ≤ length old → ViewShows shown more routers table
view_shows entries shown old more numbers list routers slabs epoch marked table all hops longer are put fits = record {
  size = ap (λ (l : List ℕ). length l) are ∙ length-map entries (shown_entry numbers) ∙ all.size;
  each = λ addr within.
      let i = addr.0 / 256 in
      let k = addr.0 % 256 in
      let answer = look_up addr table in
      let answers = slabs.routes.places.values in
      let low : k < 256 = omega arith in
      let here : i < length entries = omega (arith, within, all.size) in
      let there : get_or shown i 0 ≡ shown_entry numbers (get_or entries i 0) = rw are (get_or-map (shown_entry numbers) entries i 0 0 here) in
      let number : (n : ℕ) → n < length answers → ((d : Option Route) → get_or answers n d ≡ answer) → IsNumber routers (get_or numbers n 0) answer =
      λ n below found.
      subst (λ (a : Option Route). IsNumber routers (get_or numbers n 0) a) (found answer)
      (number_extends list routers (get_or numbers n 0) (get_or answers n answer) longer (hops.each n answer below)) in
      let leads = entry_leads entries slabs epoch marked table addr.0 (get_or entries i 0) all within (omega arith) in
      elim (cases_lt (get_or entries i 0) (2 ^ 31)) [
        | inl short ↦
            let has = leads.short short in
            let same : get_or shown i 0 ≡ get_or numbers (get_or entries i 0) 0 = grind (arith, nat_tests) in
            inl (subst (λ (e : ℕ). IsNumber routers e answer) (sym same) (number (get_or entries i 0) has.within has.there))
        | inr long ↦
            let names = leads.long long in
            let same : get_or shown i 0 ≡ get_or entries i 0 = grind (arith, nat_tests) in
            let block : ℕ = get_or entries i 0 - 2 ^ 31 in
            let group : block < length slabs.groups.places.values = names.named.within in
            let hop = number (get_or names.group.numbers k 0) names.number.within names.number.there in
            let n = block * 256 + k in
            let is_place : n / 256 ≡ block = omega (arith, low) in
            let is_k : n % 256 ≡ k = omega (arith, low) in
            let read : get_or more n 0 ≡ get_or numbers (get_or names.group.numbers k 0) 0 =
            rw (is_place, is_k) at (put.each n names.group (omega (arith, group, low)))
            ∙ ap (λ (g : Group). get_or numbers (get_or g.numbers k 0) 0) (names.named.there names.group) in
            inr (record {
              block = block;
              long = omega (arith, same, long);
              within = omega (arith, group, low, fits, put.size);
              number = subst (λ (x : ℕ). IsAnswerNumber routers x answer) (sym read) hop.number;
            })
      ];
}
