-- `asked_by`: the arguments of each kind.
use Rattle.std.proofs.Common.{Some, ap, sym, ◌∙◌}
use Rattle.text.specs.declared.kind.Kind.{Kind}
use Rattle.centre.specs.declared.call.Order.{Order}
use Rattle.script.specs.declared.asked.Asked.{Asked}
use Rattle.script.specs.Reading.{asked_by}
use Rattle.script.proofs.reading.asked_by.Goals as goal

pub returns-in-Start : goal.returns-in-Start
unfolding asked_by
returns-in-Start c = (λ t. Some (Asked.Start (c.to_u32-time.ensures t) (c.to_u16.ensures t) (c.to_u16-in-Start.ensures t))) ∙ ap (λ (kind : Kind). asked_by kind c.args.numbers) (sym c.in-Start.is)

pub returns-in-Header : goal.returns-in-Header
unfolding asked_by
returns-in-Header c = (λ t. Some (Asked.Call (Order.Header (c.to_u32-time.ensures t) (c.to_u32.ensures t) (c.to_u16-in-Header.ensures t) (c.to_u16-in-Header-2.ensures t)))) ∙ ap (λ (kind : Kind). asked_by kind c.args.numbers) (sym c.in-Header.is)

pub returns-in-Detail : goal.returns-in-Detail
unfolding asked_by
returns-in-Detail c = (λ t. Some (Asked.Call (Order.Detail (c.to_u32-time.ensures t) (c.to_u8.ensures t)))) ∙ ap (λ (kind : Kind). asked_by kind c.args.numbers) (sym c.in-Detail.is)

pub returns-in-LotTotal : goal.returns-in-LotTotal
unfolding asked_by
returns-in-LotTotal c = (λ t. Some (Asked.Call (Order.LotTotal (c.to_u32-time.ensures t)))) ∙ ap (λ (kind : Kind). asked_by kind c.args.numbers) (sym c.in-LotTotal.is)

pub returns-in-SessionTotal : goal.returns-in-SessionTotal
unfolding asked_by
returns-in-SessionTotal c = (λ t. Some (Asked.Call (Order.SessionTotal (c.to_u32-time.ensures t)))) ∙ ap (λ (kind : Kind). asked_by kind c.args.numbers) (sym c.in-SessionTotal.is)

pub returns-in-Receive : goal.returns-in-Receive
unfolding asked_by
returns-in-Receive c = (λ t. Some (Asked.Call (Order.Receive (c.to_u32-time.ensures t)))) ∙ ap (λ (kind : Kind). asked_by kind c.args.numbers) (sym c.in-Receive.is)

pub returns-in-Reply : goal.returns-in-Reply
unfolding asked_by
returns-in-Reply c = (λ t. Some (Asked.Call (Order.Reply (c.to_u32-time.ensures t)))) ∙ ap (λ (kind : Kind). asked_by kind c.args.numbers) (sym c.in-Reply.is)

pub returns-in-Clock : goal.returns-in-Clock
unfolding asked_by
returns-in-Clock c = (λ t. Some (Asked.Call (Order.Clock (c.to_u32-time.ensures t)))) ∙ ap (λ (kind : Kind). asked_by kind c.args.numbers) (sym c.in-Clock.is)

pub returns-in-Report : goal.returns-in-Report
unfolding asked_by
returns-in-Report c = ap (λ (kind : Kind). asked_by kind c.args.numbers) (sym c.in-Report.is)

pub returns-in-Passed : goal.returns-in-Passed
unfolding asked_by
returns-in-Passed c = ap (λ (kind : Kind). asked_by kind c.args.numbers) (sym c.in-Passed.is)

pub returns-in-Bad : goal.returns-in-Bad
unfolding asked_by
returns-in-Bad c = ap (λ (kind : Kind). asked_by kind c.args.numbers) (sym c.in-Bad.is)
