-- A journal leaves a table, and is lawful entry by entry.
use Rattle.std.proofs.Common.{◌≡◌, ℕ, List, [], ◌∷◌, ◌++◌, refl, ap, ◌∙◌, subst, inl, inr, ◌⊎◌, append_assoc, leb, arith}
use Rattle.std.specs.Prelude.{if◌then◌else◌}
use Rattle.std.proofs.lemmas.Bool.{cond_both}
use Rattle.std.proofs.lemmas.List.Sums.{fold_push}
use Rattle.std.specs.List.{fold}
use Rattle.rt_rib.specs.declared.routes.Route.{Route}
use Rattle.rt_rib.specs.declared.commands.Cmd.{Cmd}
use Rattle.rt_rib.specs.declared.commands.Entry.{Entry}
use Rattle.rt_rib.specs.Table.{IsTable, has, take_out, put_in, count_of}
use Rattle.rt_rib.specs.Sequential.{table_after, table_of_journal, IsAnswered, IsLawfulJournal}
use Rattle.rt_rib.proofs.CommandCases.{each_command}
use Rattle.rt_rib.proofs.Tables.{IsTable-put_in, IsTable-take_out, IsTable-purge, has-take_out}

-- each command leaves a table
pub IsTable-after : (limit : ℕ) (t : List Route) (feed : ℕ) (cmd : Cmd) → IsTable t → IsTable (table_after limit t feed cmd)
unfolding table_after
IsTable-after limit t = each_command (λ feed cmd. IsTable t → IsTable (table_after limit t feed cmd))
    (λ r h.
    cond_both (has r.feed r.prefix t) t (if leb limit (count_of r.feed t) then t else put_in r t) IsTable (λ there. h)
    (λ fresh. cond_both (leb limit (count_of r.feed t)) t (put_in r t) IsTable (λ full. h) (λ room. IsTable-put_in r t fresh h)))
    (λ r h.
    cond_both (has r.feed r.prefix t) (put_in r (take_out r.feed r.prefix t)) t IsTable
    (λ there. IsTable-put_in r (take_out r.feed r.prefix t) (has-take_out r.feed r.prefix t) (IsTable-take_out r.feed r.prefix t h)) (λ fresh. h))
    (λ feed p h. cond_both (has feed p t) (take_out feed p t) t IsTable (λ there. IsTable-take_out feed p t h) (λ fresh. h))
    (λ feed addr h. h)
    (λ feed h. h)
    (λ feed h. IsTable-purge feed t h)

-- the table after an entry's command
abbrev pub step : ℕ → List Route → Entry → List Route
step limit t e = table_after limit t e.feed e.cmd

-- starting from any table, a journal leaves a table
IsTable-fold : (limit : ℕ) (t : List Route) (journal : List Entry) → IsTable t → IsTable (fold (step limit) t journal)
IsTable-fold limit t [] h = h
IsTable-fold limit t (e ∷ journal) h = IsTable-fold limit (step limit t e) journal (IsTable-after limit t e.feed e.cmd h)

-- the routes that a journal leaves are a table
pub IsTable-of_journal : (limit : ℕ) (journal : List Entry) → IsTable (table_of_journal limit journal)
unfolding table_of_journal
IsTable-of_journal limit journal =
    IsTable-fold limit [] journal (record { ordered = λ i j d l m. absurd (omega arith); single = λ i j d l m. absurd (omega arith) })

-- after one more entry, a journal leaves what that entry's command leaves
pub table_of_journal-push : (limit : ℕ) (journal : List Entry) (e : Entry)
    → table_of_journal limit (journal ++ e ∷ []) ≡ table_after limit (table_of_journal limit journal) e.feed e.cmd
unfolding table_of_journal
table_of_journal-push limit journal e = fold_push (step limit) [] journal e

-- the empty journal leaves the empty set
pub table_of_journal-nil : (limit : ℕ) → table_of_journal limit [] ≡ []
unfolding table_of_journal
table_of_journal-nil limit = refl

-- a list with an element isn't empty
not_empty : {X : Type 0} (ys : List X) (x : X) (zs : List X) → [] ≡ ys ++ x ∷ zs → ⊥
not_empty [] x zs e = cc
not_empty (y ∷ ys) x zs e = cc

-- an element of a list with one appended is the appended one, or is in the list
push_parts : {X : Type 0} (xs ys : List X) (e x : X) (zs : List X) → xs ++ e ∷ [] ≡ ys ++ x ∷ zs → ((xs ≡ ys) × (e ≡ x)) ⊎ ((ws : List X) × (xs ≡ ys ++ x ∷ ws))
push_parts [] [] e x zs h = inl (refl, cc)
push_parts [] (y ∷ ys) e x zs h = let tail : [] ≡ ys ++ x ∷ zs = cc in absurd (not_empty ys x zs tail)
push_parts (a ∷ xs) [] e x zs h = let same : a ≡ x = cc in inr (xs, ap (λ z. z ∷ xs) same)
push_parts (a ∷ xs) (y ∷ ys) e x zs h =
    let same : a ≡ y = cc in
    let tail : xs ++ e ∷ [] ≡ ys ++ x ∷ zs = cc in
    elim (push_parts xs ys e x zs tail) [
      | inl here ↦ let front = here.0 in inl (cc, here.1)
      | inr there ↦ let rest = there.1 in inr (there.0, cc)
    ]

-- a lawful journal with an entry that is answered after it is lawful
pub IsLawfulJournal-push : (limit : ℕ) (journal : List Entry) (e : Entry) → IsLawfulJournal limit journal → IsAnswered limit journal e
    → IsLawfulJournal limit (journal ++ e ∷ [])
IsLawfulJournal-push limit journal e lawful last = record {
  answered = λ earlier x later h.
      elim (push_parts journal earlier e x later h) [
        | inl here ↦ subst (λ z. IsAnswered limit z x) here.0 (subst (λ z. IsAnswered limit journal z) here.1 last)
        | inr there ↦ lawful.answered earlier x there.0 there.1
      ];
}

-- the first part of a lawful journal is lawful
pub IsLawfulJournal-front : (limit : ℕ) (front back : List Entry) → IsLawfulJournal limit (front ++ back) → IsLawfulJournal limit front
IsLawfulJournal-front limit front back lawful = record {
  answered = λ earlier x later h.
      lawful.answered earlier x (later ++ back) (ap (λ z. z ++ back) h ∙ append_assoc earlier (x ∷ later) back);
}

-- the last entry of a lawful journal is answered after the others
pub IsLawfulJournal-last : (limit : ℕ) (journal : List Entry) (e : Entry) → IsLawfulJournal limit (journal ++ e ∷ []) → IsAnswered limit journal e
IsLawfulJournal-last limit journal e lawful = lawful.answered journal e [] refl

-- the empty journal is lawful
pub IsLawfulJournal-nil : (limit : ℕ) → IsLawfulJournal limit []
IsLawfulJournal-nil limit = record { answered = λ earlier x later h. absurd (not_empty earlier x later h) }
