-- `clean_result` meets its contract.
use mathlib.Core.Path.{refl}
use Rattle.records.specs.Alert.{alert_of, no_alert}
use Rattle.records.specs.Result.{clean_result}
use Rattle.host.proofs.result.clean_result.Goals as goal

pub returns : goal.returns
unfolding clean_result no_alert alert_of
returns c = refl
