-- `appid_at` meets its contract.
use mathlib.Core.Path.{sym, ◌∙◌}
use borrow.Author.Tests.{eq-eqb, ne_eqb}
use Rattle.wire.specs.Header.{appid_at}
use Rattle.wire.proofs.header.appid_at.Goals as goal

pub returns-then-pair_at-eq-ETHERTYPE_VLAN_8021Q : goal.returns-then-pair_at-eq-ETHERTYPE_VLAN_8021Q
unfolding appid_at
returns-then-pair_at-eq-ETHERTYPE_VLAN_8021Q c = rw (eq-eqb _ 0x8100 (sym c.pair_at.ensures ∙ c.if-pair_at-eq-ETHERTYPE_VLAN_8021Q.true))

pub returns : goal.returns
unfolding appid_at
returns c = rw (ne_eqb _ 0x8100 (λ q. c.if-pair_at-eq-ETHERTYPE_VLAN_8021Q.false (c.pair_at.ensures ∙ q)))
