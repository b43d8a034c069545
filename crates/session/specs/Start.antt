-- 01, 'Centres and directions': the start of a session.
use Rattle.std.specs.Prelude.{ℕ, false, not, cond, List, replicate, None}
use Rattle.codes.specs.Answer.{answer_number}
use Rattle.codes.specs.Chain.{◌when◌}
use Rattle.codes.specs.declared.code.Code.{Code}
use Rattle.message.specs.declared.reply.ReplyOperation.{ReplyOperation}
use Rattle.session.specs.declared.counters.Counters.{Counters}
use Rattle.session.specs.declared.effect.Effect.{Effect}
use Rattle.session.specs.declared.parties.Parties.{Parties}
use Rattle.session.specs.declared.session.Close.{Close}
use Rattle.session.specs.declared.session.Presenting.{Presenting}
use Rattle.session.specs.declared.session.Receiving.{Receiving}
use Rattle.session.specs.declared.session.Session.{Session}
use Rattle.session.specs.declared.session.Started.{Started}
use Rattle.session.specs.Limits.{most_lots}
use Rattle.session.specs.Parties.{parties_good, parties_of, nobody}
use Rattle.session.specs.Running.{empty}

-- no lot is open, and none accepted
abbrev pub no_lots : Counters
no_lots = record { current = None; lots = 0; gathered = empty }

-- nothing was sent
abbrev pub unsent : Presenting
unsent = record { serial = 0; pending = Effect.Nothing; counters = no_lots; ended = false }

-- nothing was received; its reply is never written, since a first message has serial 1
abbrev pub unheard : Receiving
unheard =
    record {
      serial = 0;
      reply = record { operation = ReplyOperation.Other; code = Code.Accepted };
      counters = no_lots;
      ended = false;
      lots = replicate most_lots (record { number = 0; gathered = empty });
    }

-- before any call: the last seen time is 0
unfoldable pub fresh : Parties → Close → Session
fresh parties close = record { parties = parties; presenting = unsent; receiving = unheard; seen = 0; close = close }

-- a number, and a session beside it
pub record StartOutcome : Type 0 where
  pub number : ℕ
  pub session : Session

-- what the answer of a start says
abbrev pub start_said : Started → StartOutcome
start_said s = record { number = answer_number s.answer; session = s.session }

-- a session just started
abbrev pub started : (date own partner : ℕ) (represented : List ℕ) → Session
started date own partner represented = fresh (parties_of date own partner represented) Close.Open

-- 24 or a session just started. What stands beside 24 the paper leaves open: a session that is closed and was never started.
unfoldable pub start : (date own partner : ℕ) (represented : List ℕ) → StartOutcome
start date own partner represented =
    record {
      number = 24 when not (parties_good date own partner represented);
      session = cond (parties_good date own partner represented) (started date own partner represented) (fresh nobody Close.Forced);
    }
