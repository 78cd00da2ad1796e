use Rattle.std.proofs.Common.{◌≡◌, ◌++◌, [], ◌∷◌, inl, inr, refl}
use Rattle.rt_run.specs.TableText.{faulty_tally}
use Rattle.rt_run.proofs.Asked.{adds_none, adds_one}
use Rattle.rt_run.proofs.queries.with_addresses.Goals as goal

pub returns-in-Routes : goal.returns-in-Routes
returns-in-Routes c = adds_none c.args.question.now c.args.tallies.items (elim c.in-Routes.is [
  | inl e ↦ rw e.1 (refl, refl)
  | inr h ↦ elim h [ inl e ↦ rw e.1 (refl, refl) | inr e ↦ rw e.1 (refl, refl) ]
])

pub returns-in_ok-try_reserve-in-Best : goal.returns-in_ok-try_reserve-in-Best
returns-in_ok-try_reserve-in-Best c =
    let read = c.parts.result.now in
    let added : c.push_reserved.new.self.items ≡ c.args.tallies.items ++ faulty_tally read.faulty ∷ [] =
    rw (c.push_reserved.ensures.items, c.in_ok-try_reserve-in-Best.ensures.items, c.of.ensures) refl in
    adds_one c.args.question.now c.in-Best.addresses.now read c.args.tallies.items c.push_reserved.new.self.items c.parts.ensures (λ rows faulty is. elim c.in-Best.is [
      | inl e ↦ rw e (faulty, is, refl)
      | inr e ↦ rw e (faulty, is, refl)
    ]) added
