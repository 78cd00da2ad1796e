-- The relations of a list of marks satisfy the laws of a lent value.
use Rattle.std.proofs.Common.{◌≡◌, ◌≢◌, ℕ, List, [], ◌++◌, sym, ap, ◌∙◌, append_assoc, append-nil, subst}
use Rattle.std.proofs.lemmas.List.Elements.{All-nil, All-append, All-weaker}
use Rattle.lock_examples.specs.Marks.{MarkedByOthers, MarkedBy}

pub others_add_nothing : (place : ℕ) (marks : List ℕ) → MarkedByOthers place marks marks
others_add_nothing place marks = record { others = []; grown = sym (append-nil marks); by_others = All-nil _ }

pub place_adds_nothing : (place : ℕ) (marks : List ℕ) → MarkedBy place marks marks
place_adds_nothing place marks = record { own = []; added = sym (append-nil marks); by_place = All-nil _ }

pub marked_by_others : (place other : ℕ) (a b c : List ℕ) → other ≢ place → MarkedByOthers place a b → MarkedBy other b c
    → MarkedByOthers place a c
marked_by_others place other a b c ne s d = record {
  others = s.others ++ d.own;
  grown = d.added ∙ (ap (λ (l : List ℕ). l ++ d.own) s.grown ∙ append_assoc a s.others d.own);
  by_others = All-append (λ mark. mark ≢ place) s.others d.own s.by_others
      (All-weaker (λ mark. mark ≡ other) (λ mark. mark ≢ place) (λ mark is same. ne (sym is ∙ same)) d.own d.by_place);
}
