use Rattle.std.proofs.Common.{sym, subst, arith}
use Rattle.ya_core.specs.declared.word.Access.TheVariants.{Load, Store}
use Rattle.ya_core.specs.WalkerModel.{AccessIsWithin}
use Rattle.ya_core.proofs.NamedWords.{words_of-number, words_of-set}
use Rattle.ya_core.proofs.machine.perform.Goals as goal

pub returns-in-Load-clause-value : goal.returns-in-Load-clause-value
returns-in-Load-clause-value c =
    let levels = c.args.shape.now in
    let within : AccessIsWithin levels (Load c.in-Load.word) =
    subst (AccessIsWithin levels) c.in-Load.is c.requires.within in
    rw (c.in-Load.is, c.number.ensures.value) (sym (words_of-number levels c.args.words.now c.in-Load.word within))

pub returns-in-Store-clause-words : goal.returns-in-Store-clause-words
returns-in-Store-clause-words c =
    let levels = c.args.shape.now in
    let within : AccessIsWithin levels (Store c.in-Store.word c.in-Store.value) =
    subst (AccessIsWithin levels) c.in-Store.is c.requires.within in
    rw (c.in-Store.is, c.number-in-Store.ensures.value)
    (words_of-set levels c.args.words.now c.in-Store.word c.in-Store.value within (omega (arith, c.requires.room)))
