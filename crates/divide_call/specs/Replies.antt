-- What the call returns and leaves, as the definitions' call says it.
use Rattle.std.specs.Prelude.{◌≡◌, ℕ}
use Rattle.std.proofs.Math.Option.{some}
use Rattle.definitions.specs.Limits.{document_01}
use Rattle.definitions.specs.Layout.{Words, Divide, divide_call}
use Rattle.fetch_call.specs.declared.Reply.{Reply}

abbrev pub divide_reply : Reply → Words → Words → Divide
divide_reply r quotients remainder = (r.number, r.place, quotients, remainder)

-- within some bound
abbrev pub DividesAs : Reply → Words → Words → Words → Words → Words → Words → Type 0
DividesAs r state vector quotients remainder quotients' remainder' =
    (n : ℕ) × (some (divide_reply r quotients' remainder') ≡ divide_call document_01 n state vector quotients remainder)
