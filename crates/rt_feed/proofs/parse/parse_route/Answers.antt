use Rattle.std.proofs.Common.{inl, inr, refl}
use Rattle.std.proofs.lemmas.Result.{err_from_is_err_and}
use Rattle.rt_feed.proofs.parse.parse_route.Goals as goal

pub returns-in_err-pref-2 : goal.returns-in_err-pref-2
returns-in_err-pref-2 c =
    let fault = err_from_is_err_and c.from_residual-in_err-pref-2.result c.from_residual-in_err-pref-2.ensures.1 in
    rw (fault.1, fault.2, c.in_ok-prefix.ensures, c.in_ok-pref.ensures, c.in_ok-hop.ensures)
    (inr (refl, inr ((c.in_ok-prefix-2.prefix, c.in_ok-prefix-2.ensures), inl c.in_err-pref-2.ensures)))

pub returns-in_err-hop-2 : goal.returns-in_err-hop-2
returns-in_err-hop-2 c =
    let fault = err_from_is_err_and c.from_residual-in_err-hop-2.result c.from_residual-in_err-hop-2.ensures.1 in
    rw (fault.1, fault.2, c.in_ok-prefix.ensures, c.in_ok-pref.ensures, c.in_ok-hop.ensures)
    (inr (
      refl,
      inr (
        (c.in_ok-prefix-2.prefix, c.in_ok-prefix-2.ensures),
        inr ((c.in_ok-pref-2.pref, c.in_ok-pref-2.ensures.0, c.in_ok-pref-2.ensures.1), inl c.in_err-hop-2.ensures),
      ),
    ))
