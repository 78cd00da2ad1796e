use Rattle.std.proofs.Common.{◌≡◌, ℕ, ◌<◌, arith, length, [], refl, sym, ap, ◌∙◌, subst, rules}
use Rattle.ya_core.specs.ArbitrationTree.{count_of_words}
use Rattle.ya_core.specs.WalkerModel.{Walk, OpIsWithin}
use Rattle.walkthrough.specs.Walk.{Leads}
use Rattle.walkthrough.proofs.Walks.{may_see, may_do, goes_on, one_tree}
use Rattle.walkthrough.proofs.walk.drive.Goals as goal
use Rattle.walkthrough.proofs.walk.drive.Goals.{in-Load+else-not-fits, in-Store}

-- a word of the walker's tree is one of the words
in_row : (start now : Walk) (size number : ℕ) → Leads start now → size ≡ count_of_words start.levels
    → number < count_of_words now.levels → number < size
in_row start now size number way whole within =
    subst (λ (n : ℕ). number < n) (sym (whole ∙ ap count_of_words (sym (one_tree start now way)))) within

pub loop-access-init : goal.loop-access-init
loop-access-init c = record { leads = ([], refl); size = refl }

pub bounds-words-number : goal.bounds-words-number
bounds-words-number c =
    let i = c.loop-access.invariant in let now = c.loop-access.walker in
    in_row c.args.walker now (length c.loop-access.words) c.in-Load.number i.leads (i.size ∙ c.requires)
    (subst (OpIsWithin now.levels) c.in-Load.is c.op.ensures.within)

pub offset_bounds-words-number : goal.offset_bounds-words-number
offset_bounds-words-number c =
    let i = c.loop-access.invariant in let now = c.loop-access.walker in
    let below : c.in-Load.number < length c.loop-access.words =
    in_row c.args.walker now (length c.loop-access.words) c.in-Load.number i.leads (i.size ∙ c.requires)
    (subst (OpIsWithin now.levels) c.in-Load.is c.op.ensures.within) in grind (arith, below)

pub bounds-words-number-in-Store : goal.bounds-words-number-in-Store
bounds-words-number-in-Store c =
    let i = c.loop-access.invariant in let now = c.loop-access.walker in
    in_row c.args.walker now (length c.loop-access.words) c.in-Store.number i.leads (i.size ∙ c.requires)
    (subst (OpIsWithin now.levels) c.in-Store.is c.op.ensures.within)

pub offset_bounds-words-number-in-Store : goal.offset_bounds-words-number-in-Store
offset_bounds-words-number-in-Store c =
    let i = c.loop-access.invariant in let now = c.loop-access.walker in
    let below : c.in-Store.number < length c.loop-access.words =
    in_row c.args.walker now (length c.loop-access.words) c.in-Store.number i.leads (i.size ∙ c.requires)
    (subst (OpIsWithin now.levels) c.in-Store.is c.op.ensures.within) in grind (arith, below)

pub loop-access-preserved : goal.loop-access-preserved
loop-access-preserved c =
    let start = c.args.walker in let now = c.loop-access.walker in let way = c.loop-access.invariant.leads in
    let Way : Walk → Type 0 = λ w. Leads start w in
    record {
      leads = elim c.match-op.branch [
        | in-Load+else-not-fits w ↦
            subst Way (sym w.walker-is) (goes_on start now w.saw.new.self _ way (may_see now _ (search rules)) w.saw.ensures.after)
        | in-Store w ↦
            subst Way (sym w.walker-is) (goes_on start now w.done.new.self 0 way
            (may_do now w.in-Store.number w.in-Store.value 0 (sym c.op.ensures.value ∙ w.in-Store.is)) (w.done.ensures.after 0))
      ];
      size = c.match-op.auto.words ∙ c.loop-access.invariant.size;
    }
