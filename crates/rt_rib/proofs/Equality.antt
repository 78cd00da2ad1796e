-- `==` of two routes, or of two next hops, decides whether they are equal.
use Rattle.std.proofs.Common.{◌≡◌, ap, refl, ◌==◌, Decides}
use Rattle.std.proofs.lemmas.Bool.Decides.{Decides-eqb, Decides-and, Decides-like}
use Rattle.rt_cidr.specs.Laws.{SamePrefix}
use Rattle.rt_cidr.specs.declared.prefixes.Prefix.{Prefix}
use Rattle.rt_cidr.specs.contracts.prefixes.PrefixPartialEq.TheImpl as of_prefix
use Rattle.rt_rib.specs.declared.routes.Route.{Route}
use Rattle.rt_rib.specs.declared.routes.Hop.{Hop}
use Rattle.rt_rib.specs.declared.routes.Hop.TheVariants.{Via, Discard}
use Rattle.rt_rib.specs.contracts.routes.HopPartialEq.TheImpl as of_hop
use Rattle.rt_rib.specs.contracts.routes.RoutePartialEq.TheImpl as of_route

decides_prefix : SamePrefix → (p q : Prefix) → Decides ((of_prefix.ghosts).eq p q) (p ≡ q)
decides_prefix law p q =
    Decides-like ((of_prefix.ghosts).eq p q) (λ h. law p q h.0 h.1) (λ e. (ap (λ (x : Prefix). x.base) e, ap (λ (x : Prefix). x.len) e))
    (Decides-and (p.base == q.base) (p.len == q.len) (Decides-eqb p.base q.base) (Decides-eqb p.len q.len))

pub decides_hop : (h k : Hop) → Decides ((of_hop.ghosts).eq h k) (h ≡ k)
decides_hop (Via a) (Via b) =
    Decides-like ((of_hop.ghosts).eq (Via a) (Via b)) (λ e. ap (λ n. Via (record { 0 = n })) e) (λ e. cc) (Decides-eqb a.0 b.0)
decides_hop (Via a) Discard = (λ e. cc, λ e. cc)
decides_hop Discard (Via b) = (λ e. cc, λ e. cc)
decides_hop Discard Discard = (λ e. refl, λ e. refl)

pub decides_route : SamePrefix → (r s : Route) → Decides ((of_route.ghosts).eq r s) (r ≡ s)
decides_route law r s =
    Decides-like ((of_route.ghosts).eq r s)
    (λ h i. record { prefix = h.0 i; feed = h.1.0 i; pref = h.1.1.0 i; hop = h.1.1.1 i })
    (λ e. (ap (λ (x : Route). x.prefix) e, (ap (λ (x : Route). x.feed) e, (ap (λ (x : Route). x.pref) e, ap (λ (x : Route). x.hop) e))))
    (Decides-and _ _ (decides_prefix law r.prefix s.prefix)
    (Decides-and _ _ (Decides-eqb r.feed s.feed) (Decides-and _ _ (Decides-eqb r.pref s.pref) (decides_hop r.hop s.hop))))
